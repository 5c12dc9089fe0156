-- This file shows how the input is taken for an audit, and its reply given.
use Rattle.std.proofs.Common.{◌≡◌, ◌⊎◌, inl, inr, ℕ, ◌+◌, ◌≤◌, ◌<◌, List, [], ◌∷◌, ◌++◌, length, take}
use Rattle.std.proofs.Common.{refl, sym, ◌∙◌, ap, subst, arith, append_assoc, length-append}
use Rattle.std.proofs.lemmas.List.{append-nil, length-take}
use Rattle.std.specs.Prelude.{◌≢◌, Option, Some, None, Result, Ok, Err}
use Rattle.std.specs.Result.{IsErrAnd}
use Rattle.outside_world.specs.declared.world.Failed.{Failed}
use Rattle.outside_world.specs.View.{View}
use Rattle.outside_world.specs.Calls.{Asks, Ticks, SameFiles, Took}
use Rattle.outside_world.proofs.Moments.{only_nothing, only_wider, only_then, only_of_adds}
use Rattle.rose_shell.specs.declared.fault.Fault.{Fault}
use Rattle.rose_shell.specs.declared.fault.Fault.TheVariants as faults
use Rattle.rose_shell.specs.declared.status.Status.{Status}
use Rattle.rose_shell.specs.declared.status.Status.TheVariants.{Done, Usage, SourceFault, SinkFault}
use Rattle.rose_shell.specs.declared.status.Status.TheVariants.{DiskFault, Damaged, NoMemory, InputLimit}
use Rattle.rose_shell.specs.Faults.{status_of}
use Rattle.rose_shell.specs.Giving.{GaveSome}
use Rattle.rose_shell.specs.Auditing.{TookThenGave, HasAudited}
use Rattle.rose_shell.specs.Certificates.{HasReadInput}
use Rattle.rose_shell.specs.Telling.{GivesLines}

-- nothing was taken or given
pub calls_none : {v : View} → TookThenGave v v [] [] []
calls_none {v} = record {
  later = omega arith;
  left = refl;
  taken = sym (append-nil v.taken);
  sent = [];
  split = refl;
  given = sym (append-nil v.given);
  asked = only_nothing;
  files = record { reads = λ f. refl; images = λ f c may. may };
  crash = only_nothing;
}

-- the front of nothing
front_of_none : (front rest : List ℕ) → [] ≡ front ++ rest → front ≡ []
front_of_none [] rest split = refl
front_of_none (b ∷ front) rest split = absurd (cc)

-- so far nothing was given
given_before : {old mid : View} {bytes : List ℕ} → TookThenGave old mid bytes [] [] → mid.given ≡ old.given
given_before {old} calls =
    calls.given ∙ ap (λ (l : List ℕ). old.given ++ l) (front_of_none calls.sent [] calls.split) ∙ append-nil old.given

-- one take more, before anything is given
took : {old mid new : View} {bytes : List ℕ} (more : List ℕ) → TookThenGave old mid bytes [] [] → Ticks (Asks mid) mid new
    → SameFiles mid new → new.given ≡ mid.given → mid.left ≡ more ++ new.left → new.taken ≡ mid.taken ++ more
    → TookThenGave old new (bytes ++ more) [] []
took {old} {mid} {new} {bytes} more calls ticks files given left taken =
    let before : mid.given ≡ old.given = given_before calls in
    let still : new.given ≡ old.given ++ [] = given ∙ before ∙ sym (append-nil old.given) in
    record {
      later = omega (arith, calls.later, ticks.clock);
      left = calls.left ∙ ap (λ (l : List ℕ). bytes ++ l) left ∙ sym (append_assoc bytes more new.left);
      taken = taken ∙ ap (λ (l : List ℕ). l ++ more) calls.taken ∙ append_assoc old.taken bytes more;
      sent = [];
      split = refl;
      given = still;
      asked = only_then calls.asked calls.later (only_wider (only_of_adds ticks.asked) (λ a asks. asks.1 ∙ before));
      files = record {
        reads = λ f. files.reads f ∙ calls.files.reads f;
        images = λ f c may. calls.files.images f c (files.images f c may);
      };
      crash = only_then calls.crash calls.later (only_wider (only_of_adds ticks.crash) (λ m may. (
        [],
        [],
        refl,
        may.0 ∙ still,
        λ f. calls.files.images f (m.files f) (files.images f (m.files f) (may.1 f)),
      )));
    }

pub took_more : {old mid new : View} {bytes buf : List ℕ} {n : ℕ} → TookThenGave old mid bytes [] [] → Took mid new buf (Ok n)
    → TookThenGave old new (bytes ++ take n buf) [] []
took_more {buf = buf} {n} calls call =
    took (take n buf) calls call.ticks call.files call.given call.moved.left call.moved.taken

-- and one that moves nothing, since it fails or the input is over
took_nothing : {old mid new : View} {bytes : List ℕ} → TookThenGave old mid bytes [] [] → Ticks (Asks mid) mid new
    → SameFiles mid new → new.given ≡ mid.given → mid.left ≡ new.left → new.taken ≡ mid.taken → TookThenGave old new bytes [] []
took_nothing {old} {mid} {new} {bytes} calls ticks files given left taken =
    subst (λ (l : List ℕ). TookThenGave old new l [] []) (append-nil bytes)
    (took [] calls ticks files given left (taken ∙ sym (append-nil mid.taken)))

pub took_none : {old mid new : View} {bytes buf : List ℕ} {e : Failed} → TookThenGave old mid bytes [] []
    → Took mid new buf (Err e) → TookThenGave old new bytes [] []
took_none {mid = mid} calls call =
    took_nothing calls call.ticks call.files call.given call.failed.left (call.failed.taken ∙ append-nil mid.taken)

pub took_end : {old mid new : View} {bytes buf : List ℕ} {n : ℕ} → TookThenGave old mid bytes [] [] → Took mid new buf (Ok n)
    → n ≡ 0 → TookThenGave old new bytes [] []
took_end {mid = mid} {new} {buf = buf} calls call none =
    took_nothing calls call.ticks call.files call.given
    (call.moved.left ∙ ap (λ (k : ℕ). take k buf ++ new.left) none)
    (call.moved.taken ∙ ap (λ (k : ℕ). mid.taken ++ take k buf) none ∙ append-nil mid.taken)

-- then nothing is left
pub none_left : {mid new : View} {buf : List ℕ} {n : ℕ} → Took mid new buf (Ok n) → n ≡ 0 → 0 < length buf → new.left ≡ []
none_left {new = new} {buf} call none room =
    sym (call.moved.left ∙ ap (λ (k : ℕ). take k buf ++ new.left) none) ∙ call.ended none room

-- ---- how the reading comes out

-- the budget was spent, and this take has given more
pub read_limit : {old mid new : View} {bytes buf : List ℕ} {n room budget : ℕ} → TookThenGave old mid bytes [] []
    → Took mid new buf (Ok n) → length bytes + room ≡ budget → room ≡ 0 → 0 < n → n ≤ length buf
    → HasReadInput old new budget (Ok None)
read_limit {bytes = bytes} {buf} {n} calls call spent none some within = (
  bytes ++ take n buf,
  took_more calls call,
  omega (arith, spent, none, some, within, length-append bytes (take n buf), length-take n buf),
)

-- a fault comes with the bytes within the budget
pub read_err : {old new : View} {bytes : List ℕ} {budget : ℕ} (P : Fault → Type 0) (r : Result (Option (List ℕ)) Fault)
    → IsErrAnd r P → TookThenGave old new bytes [] [] → length bytes ≤ budget → HasReadInput old new budget r
read_err P (Ok x) is calls within = absurd is
read_err {bytes = bytes} P (Err e) is calls within = (bytes, calls, within)

-- ---- how an audit ends

gave_behind : {old mid new : View} {bytes reply unsent : List ℕ} → TookThenGave old mid bytes [] [] → GaveSome mid new reply unsent
    → TookThenGave old new bytes reply unsent
gave_behind {old} {mid} {new} {bytes} {reply} calls some =
    let before : mid.given ≡ old.given = given_before calls in
    record {
      later = omega (arith, calls.later, some.takes.later);
      left = calls.left ∙ ap (λ (l : List ℕ). bytes ++ l) (sym some.takes.left);
      taken = some.takes.taken ∙ calls.taken;
      sent = some.sent;
      split = some.split;
      given = some.given ∙ ap (λ (l : List ℕ). l ++ some.sent) before;
      asked = only_then calls.asked calls.later (only_wider some.takes.asked (λ a never. absurd never));
      files = record {
        reads = λ f. some.files.reads f ∙ calls.files.reads f;
        images = λ f c may. calls.files.images f c (some.files.images f c may);
      };
      crash = only_then
          (only_wider calls.crash (λ m is. (
            [],
            reply,
            refl,
            is.3 ∙ ap (λ (l : List ℕ). old.given ++ l) (front_of_none is.0 is.1 is.2),
            is.4,
          )))
          calls.later
          (only_wider some.crash (λ m is. (
            is.0,
            is.1,
            is.2,
            is.3 ∙ ap (λ (l : List ℕ). l ++ is.0) before,
            λ f. calls.files.images f (m.files f) (is.4 f),
          )));
    }

-- the reply is given, whole or but for an end
pub audited_given : {old mid new : View} {o : Option (List ℕ)} {status : Status} (budget : ℕ) (reply : List ℕ) → o ≡ Some reply
    → HasReadInput old mid budget (Ok o) → GivesLines mid new reply status → HasAudited old new budget status
audited_given {old} {mid} {new} budget reply some read gives =
    let (bytes, calls, (within, left, tells)) = subst (λ (o : Option (List ℕ)). HasReadInput old mid budget (Ok o)) some read in
    let over : new.left ≡ [] = gives.some.takes.left ∙ left in
    elim gives.ends [
      | inl done ↦ subst (λ (s : Status). HasAudited old new budget s) (sym done.0) (record {
        bytes = bytes;
        reply = reply;
        unsent = gives.unsent;
        calls = gave_behind calls gives.some;
        within = λ _. within;
        ended = (over, tells, done.1);
      })
      | inr fault ↦ subst (λ (s : Status). HasAudited old new budget s) (sym fault.0) (record {
        bytes = bytes;
        reply = reply;
        unsent = gives.unsent;
        calls = gave_behind calls gives.some;
        within = λ _. within;
        ended = (over, tells, fault.1);
      })
    ]

-- the input is longer than the budget
pub audited_limit : {old new : View} {o : Option (List ℕ)} (budget : ℕ) → o ≡ None → HasReadInput old new budget (Ok o)
    → HasAudited old new budget InputLimit
audited_limit {old} {new} budget none read =
    let (bytes, calls, more) = subst (λ (o : Option (List ℕ)). HasReadInput old new budget (Ok o)) none read in
    record {
      bytes = bytes;
      reply = [];
      unsent = [];
      calls = calls;
      within = λ other. absurd (other refl);
      ended = (refl, more);
    }

-- the source failed, or memory ran out
pub audited_err : {old new : View} {budget : ℕ} {fault : Fault} {status : Status} → HasReadInput old new budget (Err fault)
    → (fault ≡ faults.Source) ⊎ (fault ≡ faults.NoMemory) → status ≡ status_of fault → HasAudited old new budget status
audited_err {old} {new} {budget} (bytes, calls, within) (inl source) is =
    subst (λ (s : Status). HasAudited old new budget s) (sym (is ∙ ap status_of source)) (record {
      bytes = bytes;
      reply = [];
      unsent = [];
      calls = calls;
      within = λ _. within;
      ended = refl;
    })
audited_err {old} {new} {budget} (bytes, calls, within) (inr memory) is =
    subst (λ (s : Status). HasAudited old new budget s) (sym (is ∙ ap status_of memory)) (record {
      bytes = bytes;
      reply = [];
      unsent = [];
      calls = calls;
      within = λ _. within;
      ended = refl;
    })

-- memory ran out before anything was done
pub audited_none : {v : View} {budget : ℕ} → HasAudited v v budget NoMemory
audited_none = record {
  bytes = [];
  reply = [];
  unsent = [];
  calls = calls_none;
  within = λ _. omega arith;
  ended = refl;
}

-- an audit that tells of no fault takes its input to the end where this is within the budget, unless memory runs out
pub audited_to_end : {old new : View} {budget : ℕ} (status : Status) → HasAudited old new budget status → status ≢ SourceFault
    → status ≢ SinkFault → length old.left ≤ budget → (status ≡ Done) ⊎ (status ≡ NoMemory)
audited_to_end Done audited source sink fits = inl refl
audited_to_end Usage audited source sink fits = absurd audited.ended
audited_to_end SourceFault audited source sink fits = absurd (source refl)
audited_to_end SinkFault audited source sink fits = absurd (sink refl)
audited_to_end DiskFault audited source sink fits = absurd audited.ended
audited_to_end (Damaged d) audited source sink fits = absurd audited.ended
audited_to_end NoMemory audited source sink fits = inr refl
audited_to_end {new = new} InputLimit audited source sink fits =
    absurd (omega (
      arith,
      fits,
      ap (λ (l : List ℕ). length l) audited.calls.left,
      length-append audited.bytes new.left,
      audited.ended.1,
    ))
