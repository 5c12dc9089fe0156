use Rattle.std.proofs.Common.{inr, ℕ, ◌<◌, ◌^◌, length, arith, refl, ap, sym, subst}
use Rattle.record_codec.specs.declared.header.Header.{Header}
use Rattle.record_codec.specs.Heads.{IsHeader}
use Rattle.realm_pages.proofs.Counting.{is_head}
use Rattle.realm_pages.proofs.prepared.head_for.Goals as goal

-- no payload is so long that its pages couldn't be told
pub returns-clause-is_header : goal.returns-clause-is_header
returns-clause-is_header c =
    let size = length c.args.payload.now in
    let small : size < 2 ^ 63 = omega arith in
    let of_pages : ℕ → Header = λ n. record { version = 2; generation = c.args.generation; pages = n; length = size } in
    subst IsHeader (sym (ap of_pages c.pages_for.ensures)) (is_head 2 c.args.generation size (inr refl) c.requires small)
