-- This file shows that files which a crash of a run leaves stand for a state, so that the next run can go on from them.
use Rattle.std.proofs.Common.{inl, inr, ⊎_elim, List, [], ◌∷◌, refl, sym, subst, arith}
use Rattle.outside_world.specs.View.{View, Moment, MayLeave, AllStable}
use Rattle.outside_world.specs.declared.world.Outside.{Ghosts}
use Rattle.realm_insert.specs.State.{State}
use Rattle.realm_files.specs.Stands.{Files}
use Rattle.realm_files.proofs.Pairs.{same_files}
use Rattle.realm_store.specs.Keeping.{StandsGated}
use Rattle.realm_store.proofs.OneReading.{gate_is_kept}
use Rattle.rose_shell.specs.declared.status.Status.{Status}
use Rattle.rose_shell.specs.Running.{state_in, is_commit, ready_store, StandForState, IsCrashOf, HasRun}
use Rattle.rose_shell.specs.Chains.{CrashedRun, IsChain, IsLeftBy, Survives}
use Rattle.rose_shell.proofs.Prefixes.{start_is_prefix}

-- what one crash leaves: files that stand for what it leaves of the state
module _ (old : View) (only_now : (m : Moment) → old.left_since old.moment m → MayLeave old m) (stable : AllStable old)
    (state : State) (stands : StandsGated old.reads state) where
  -- nothing was written before the crash
  untouched : (m : Moment) → MayLeave old m → StandsGated m.files state
  untouched m may =
      subst (λ (files : Files). StandsGated files state) (sym (same_files (λ f. stable f (m.files f) (may.1 f)))) stands

  pub left_by : {new : View} {status : Status} (ran : HasRun old new status) (m : Moment) → new.left_since old.moment m
      → (after : State) × IsLeftBy ran m state after × StandsGated m.files after
  left_by (inl not_begun) m left =
      let may = ⊎_elim (λ past. only_now m past) (λ may. may) (not_begun.asks.crash.nothing_else old.moment m (omega arith) left) in
      (state, refl, untouched m may)
  left_by (inr begun) m left =
      let kept = gate_is_kept old.reads state begun.start stands begun.rests begun.knows in
      let start = ready_store begun.start in
      let turns = begun.served.session.work.turns in
      let is_crash : IsCrashOf start turns old.given m =
      ⊎_elim
      (λ past.
      let may = only_now m past in
      start_is_prefix state_in is_commit StandForState start turns old.given m may.0
      (subst (λ (s : State). StandsGated m.files s) (sym kept.1) (untouched m may)))
      (λ is. is)
      ((begun.served.prefix kept.0).nothing_else old.moment m (omega arith) left) in
      ⊎_elim
      (λ here. (_, (kept.1, inl refl), here))
      (λ next. (_, (kept.1, inr refl), next))
      is_crash

-- and so on from run to run
module _ {World : Type 0} (outside : Ghosts World)
    (only_now : (w : World) (m : Moment) → outside.tells w → (outside.view w).left_since (outside.view w).moment m
    → MayLeave (outside.view w) m) where
  pub chain_survives : (files : Files) (runs : List (CrashedRun World)) (chain : IsChain outside files runs) (state : State)
      → StandsGated files state → Survives outside state files runs chain
  chain_survives files [] chain state stands = stands
  chain_survives files (run ∷ runs) chain state stands =
      let first = chain.0 in
      let one = left_by (outside.view run.old) (λ m left. only_now run.old m first.tells left) first.stable state
      (subst (λ (f : Files). StandsGated f state) (sym first.reads) stands) first.ran run.crash first.crashed in
      (stands, (one.0, one.1, chain_survives run.crash.files runs chain.1 one.0 one.2))
