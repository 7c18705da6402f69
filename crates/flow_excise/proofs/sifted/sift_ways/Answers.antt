use Rattle.flow_model.proofs.MadeLists.{mem-map}
use Rattle.flow_weave.specs.Woven.{option_with}
use Rattle.flow_excise.proofs.SieveLemmas.{mem_read, sift_more_ways}
use Rattle.flow_excise.proofs.sifted.sift_ways.Goals as goal

pub sift-requires : goal.sift-requires
sift-requires c =
    c.requires (option_with c.args.resolution.now.process c.index-orders-way.result)
    (mem-map (option_with c.args.resolution.now.process) c.index-orders-way.result c.args.orders.now
    (mem_read c.args.orders.now c.loop-way.way c.index-orders-way.result c.loop-way-test.true c.index-orders-way.is))

pub loop-way-preserved : goal.loop-way-preserved
loop-way-preserved c =
    sift_more_ways c.args.number c.args.resolution.now.process c.args.orders.now c.loop-way.way c.index-orders-way.result c.args.sieve.now c.loop-way.sieve c.sift.new.sieve
    c.loop-way-test.true c.index-orders-way.is c.loop-way.invariant c.in_ok-sift.ensures
