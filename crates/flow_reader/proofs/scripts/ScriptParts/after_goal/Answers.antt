use Rattle.flow_reader.proofs.scripts.ScriptParts.after_goal.Goals as goal

pub returns-in-Reading : goal.returns-in-Reading
returns-in-Reading c = rw c.in-Reading.is

pub returns-in-Whole : goal.returns-in-Whole
returns-in-Whole c = rw (c.in-Whole.is, c.replace.ensures.after, c.replace-in-Whole.ensures.after, c.new.ensures.items)
