use Rattle.std.proofs.Common.{◌≡◌, [], map, length, get_or, ap, sym, subst, ◌∙◌, arith}
use Rattle.std.specs.Str.{IsUtf8}
use Rattle.std.specs.String.{string_bytes}
use Rattle.std.proofs.lemmas.List.{length-map}
use Rattle.flow_record.specs.Lines.{pieces_of}
use Rattle.flow_trail.specs.Spelling.{unspelt}
use Rattle.flow_trail.proofs.GuessLemmas.{short_guess, long_guess}
use Rattle.flow_trail.proofs.guess.guess.Goals as goal

pub returns-in-23 : goal.returns-in-23
returns-in-23 c =
    let count : length c.in_ok-pieces.pieces.items ≡ 23 = omega (arith, c.deref-in-23.ensures.len, ap length c.deref-in-23.ensures.value, c.len.ensures, c.in-23.is) in
    let size : length (pieces_of 34 c.args.text.now) ≡ 23 = sym (ap length c.in_ok-pieces.ensures) ∙ length-map _ _ ∙ count in
    short_guess (map (λ piece. piece.now) c.deref-in-23.result.now) (pieces_of 34 c.args.text.now) c.in_ok-guess_told-in-23.field-0 (string_bytes c.new-note.result)
    (ap (map (λ piece. piece.now)) c.deref-in-23.ensures.value ∙ c.in_ok-pieces.ensures) size c.new-note.ensures.bytes c.in_ok-guess_told-in-23.ensures

pub returns-in-27 : goal.returns-in-27
returns-in-27 c =
    let count : length c.in_ok-pieces.pieces.items ≡ 27 = omega (arith, c.deref-in-27.ensures.len, ap length c.deref-in-27.ensures.value, c.len.ensures, c.in-27.is) in
    let size : length (pieces_of 34 c.args.text.now) ≡ 27 = sym (ap length c.in_ok-pieces.ensures) ∙ length-map _ _ ∙ count in
    let at : c.piece_at.result.now ≡ get_or (map (λ piece. piece.now) c.deref-in-27-2.result.now) 21 [] =
    c.piece_at.ensures ∙ ap (λ ps. get_or (map (λ piece. piece.now) ps) 21 []) (c.deref-in-27.ensures.value ∙ sym c.deref-in-27-2.ensures.value) in
    long_guess (map (λ piece. piece.now) c.deref-in-27-2.result.now) (pieces_of 34 c.args.text.now) c.in_ok-guess_told-in-27.field-0 (string_bytes c.in_ok-note-in-27.note)
    (ap (map (λ piece. piece.now)) c.deref-in-27-2.ensures.value ∙ c.in_ok-pieces.ensures) size
    (λ plain. c.in_ok-note-in-27.ensures (subst IsUtf8 (ap unspelt (sym at)) plain) ∙ ap unspelt at) c.in_ok-guess_told-in-27.ensures
