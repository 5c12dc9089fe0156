-- This file shows that an answer has one error.
use Rattle.std.proofs.Common.{◌≡◌, ◌∙◌, sym}
use Rattle.std.specs.Prelude.{Result, Err}
use Rattle.realm_pages.specs.declared.error.PagesError.{PagesError}

pub same_error : {T : Type 0} {r : Result T PagesError} (e f : PagesError) → r ≡ Err e → r ≡ Err f → e ≡ f
same_error e f is also =
    let same : Err e ≡ Err f = sym is ∙ also in
    cc
