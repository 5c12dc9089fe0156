use Rattle.std.proofs.Common.{refl}
use Rattle.std.proofs.lemmas.List.{take_rest}
use Rattle.realm_pages.proofs.FrontReadings.{whole_counts, has_head, head_is}
use Rattle.realm_pages.proofs.heads.head_in.Goals as goal

-- it counts with a head,
pub returns-in-Some-clause-head : goal.returns-in-Some-clause-head
returns-in-Some-clause-head c = λ whole is.
    let (is_header, text) = c.in-Some.ensures.found in
    record {
      counts = whole_counts whole c.args.front.now is (c.counts.ensures.0 c.if-not-counts.false);
      head = has_head whole c.args.front.now is c.in-Some.head (take_rest c.args.front.now 1) is_header text;
    }

-- or it counts and lacks one
pub returns-in-None-clause-head : goal.returns-in-None-clause-head
returns-in-None-clause-head c = λ whole is. record {
  is = refl;
  counts = whole_counts whole c.args.front.now is (c.counts.ensures.0 c.if-not-counts.false);
  lacks = λ h head.
      let found = c.in-None.ensures.only h head.is_header
      (head_is whole c.args.front.now is h (take_rest c.args.front.now 1) head) in
      absurd (cc);
}
