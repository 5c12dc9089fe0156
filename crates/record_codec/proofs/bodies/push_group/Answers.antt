use Rattle.std.proofs.Common.{◌≡◌, ℕ, List, ◌++◌, OnOk, subst, ap, ◌∙◌, append_assoc}
use Rattle.std.specs.Int.{w64, to_be_bytes}
use Rattle.record_codec.specs.Spelling.{list, entry, entries_text}
use Rattle.record_codec.proofs.BodyLemmas.{group_spelled}
use Rattle.record_codec.proofs.bodies.push_group.Goals as goal

-- what was written in three steps is the text of two entries or more
pub returns : goal.returns
returns c =
    let old = c.args.out.now.items in
    let zero = to_be_bytes w64 0 in
    let number = to_be_bytes w64 c.args.number in
    let entries = list entry c.args.entries.now in
    let written : c.push_eight-2.new.out.items ++ entries ≡ old ++ entries_text c.args.number c.args.entries.now =
    ap (λ (l : List ℕ). l ++ entries) c.in_ok-push_eight-2.ensures
    ∙ ap (λ (l : List ℕ). (l ++ number) ++ entries) c.in_ok-push_eight.ensures
    ∙ append_assoc (old ++ zero) number entries
    ∙ append_assoc old zero (number ++ entries)
    ∙ ap (λ (l : List ℕ). old ++ l) (group_spelled c.args.number c.args.entries.now c.requires.several) in
    subst (λ (l : List ℕ). OnOk c.push_list.result (c.push_list.new.out.items ≡ l)) written c.push_list.ensures
