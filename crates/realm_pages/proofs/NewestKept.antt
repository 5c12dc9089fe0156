-- This file shows which file is the newest while a generation is put on the other.
use Rattle.std.proofs.Common.{◌≡◌, ◌≢◌, ◌⊎◌, inl, inr, ⊎_elim, ℕ, List, refl, sym, subst}
use Rattle.std.specs.Prelude.{Result}
use Rattle.std.proofs.lemmas.Result.{on_ok_weaker}
use Rattle.outside_world.specs.declared.world.FileName.{FileName}
use Rattle.outside_world.specs.declared.world.FileName.TheVariants.{A, B}
use Rattle.outside_world.specs.View.{View}
use Rattle.outside_world.proofs.Moments.{only_wider}
use Rattle.realm_journal.specs.declared.error.JournalError.{JournalError as SwitchError}
use Rattle.realm_pages.specs.Generations.{Generation}
use Rattle.realm_pages.specs.Files.{Counts, HoldsAlone}
use Rattle.realm_pages.specs.Damages.{CountsWith, IsNewest}
use Rattle.realm_pages.specs.Finding.{HoldsNewest}
use Rattle.realm_pages.specs.Switching.{Switched, MayTake, IsNewestKept, KeepsNewest}

not_b : A ≢ B
not_b is = cc

not_a : B ≢ A
not_a is = cc

same_or : (f g : FileName) → (f ≡ g) ⊎ (f ≢ g)
same_or A A = inl refl
same_or B B = inl refl
same_or A B = inr not_b
same_or B A = inr not_a

-- there are two files
one_of_two : (f g : FileName) → f ≢ g → (h : FileName) → h ≢ f → h ≡ g
one_of_two A A differ h other = absurd (differ refl)
one_of_two B B differ h other = absurd (differ refl)
one_of_two A B differ A other = absurd (other refl)
one_of_two A B differ B other = refl
one_of_two B A differ A other = refl
one_of_two B A differ B other = absurd (other refl)

module _ {old : View} {file : FileName} {g : Generation} (may : MayTake old file g) where
  module _ (files : FileName → List ℕ) (others : (f : FileName) → f ≢ file → old.image f (files f)) where
    -- the file is as it could be before
    as_before : old.image file (files file) → IsNewestKept old file g files
    as_before could = inl (
      files,
      λ f. ⊎_elim (λ same. subst (λ x. old.image x (files x)) (sym same) could) (λ differ. others f differ) (same_or f file),
      record { newest = λ f h is. (is, refl); none = λ n. n },
    )

    -- or it doesn't count, as if it were what is read of it
    module _ (reads : old.image file (old.reads file)) (none : Counts (files file) → ⊥) where
      instead : (f : FileName) → (f ≡ file) ⊎ (f ≢ file) → List ℕ
      instead f (inl same) = old.reads file
      instead f (inr differ) = files f

      abbrev before : FileName → List ℕ
      before f = instead f (same_or f file)

      could_be : (f : FileName) (s : (f ≡ file) ⊎ (f ≢ file)) → old.image f (instead f s)
      unfolding instead
      could_be f (inl same) = subst (λ x. old.image x (old.reads file)) (sym same) reads
      could_be f (inr differ) = others f differ

      is_other : (f : FileName) (s : (f ≡ file) ⊎ (f ≢ file)) → f ≢ file → instead f s ≡ files f
      unfolding instead
      is_other f (inl same) differ = absurd (differ same)
      is_other f (inr differ) also = refl

      unseated : IsNewestKept old file g files
      unseated = inl (
        before,
        λ f. could_be f (same_or f file),
        record {
          newest = λ f h is. ⊎_elim
              (λ same. absurd (may.not_newest before h (λ x. could_be x (same_or x file)) (subst (λ x. IsNewest before x h) same is)))
              (λ differ.
              let stays = is_other f (same_or f file) differ in (
                record {
                  counts = subst (λ l. CountsWith l h) stays is.counts;
                  older = λ other apart counts.
                      absurd (none (subst (λ x. Counts (files x)) (one_of_two f file differ other apart) counts));
                },
                sym stays,
              ))
              (same_or f file);
          none = λ n f counts. ⊎_elim
              (λ same. none (subst (λ x. Counts (files x)) same counts))
              (λ differ. n f (subst (λ l. Counts l) (sym (is_other f (same_or f file) differ)) counts))
              (same_or f file);
        },
      )

    -- or it holds the generation, and the other is older
    seated : HoldsAlone (files file) g → HoldsNewest files file g
    seated alone = record {
      newest = record {
        counts = record { counts = alone.holds.counts; head = alone.holds.head };
        older = λ other differ counts. may.older other (files other) (others other differ) counts;
      };
      holds = alone.holds;
    }

  -- at each moment
  pub keeps : {new : View} (r : Result ℕ SwitchError) → old.image file (old.reads file) → Switched old new file g r
      → KeepsNewest old new file g r
  keeps {new} r reads switched = record {
    crash = only_wider switched.writes.crash (λ m is. ⊎_elim
        (λ could. as_before m.files is.others could)
        (λ rest. ⊎_elim
        (λ none. unseated m.files is.others reads none)
        (λ alone. inr (seated m.files is.others alone, alone))
        rest)
        is.named);
    newest = on_ok_weaker r (λ whole files images.
        seated files (λ f differ. switched.writes.others f (files f) differ (images f)) (whole (files file) (images file))) switched.whole;
  }
