-- This file shows that some lists are the texts of a first place and of items.
use Rattle.std.proofs.Common.{◌≡◌, ℕ, Bool, true, false, List, [], ◌∷◌, ◌++◌, refl, sym, ap, subst, ◌∙◌, append_assoc}
use Rattle.std.specs.Prelude.{codes}
use Rattle.std.specs.List.{flat_map, AllByRecursion}
use Rattle.std.proofs.lemmas.List.{append-nil}
use Rattle.std.proofs.lemmas.List.Concat.{flat_map-cons, flat_map-append}
use Rattle.line_grammar.specs.declared.command.At.{At}
use Rattle.line_grammar.specs.Pieces.{space, point, led_point, points, lists}
use Rattle.line_grammar.specs.Fitting.{IsPoint, IsNonempty, ArePoints}
use Rattle.line_grammar.specs.Reading.{◌>>=◌, led_point_at, push}
use Rattle.line_grammar.specs.Listing.{Lists, added_item, add_item, all_lists, items_at, lists_from_at}
use Rattle.line_grammar.proofs.Exact.{Tail, Then, then}
use Rattle.line_grammar.proofs.Literals.{Made, made}
use Rattle.line_grammar.proofs.Rows.{Row, added, rows}
use Rattle.line_grammar.proofs.Runs.{Parted}
use Rattle.line_grammar.proofs.PlaceRows.{led_place}
use Rattle.line_grammar.proofs.Semicolons.{item, item_text, ItemFits, item_row}

items : (ls : Lists) → Tail Parted (Row item.kind add_item ls) (items_at ls)
unfolding items_at
items ls = rows item add_item ls item_row

-- what follows the first place of some lists
abbrev pub ListsFrom : At → List (List At) → List ℕ → Type 0
ListsFrom p = Made all_lists (Row item.kind add_item ([], p ∷ []))

-- some lists
abbrev pub SomeLists : List (List At) → List ℕ → Type 0
SomeLists = Then led_place.kind ListsFrom

pub some_lists : Tail Parted SomeLists (λ line. led_point_at line >>= λ p. lists_from_at p.0 p.1)
some_lists = then led_place Parted ListsFrom lists_from_at
    (λ p fits. made Parted all_lists (Row item.kind add_item ([], p ∷ [])) (items_at ([], p ∷ [])) (items ([], p ∷ [])))
    (λ p t fits. refl)

-- ---- the texts of lists

points-append : (ps qs : List At) → points (ps ++ qs) ≡ points ps ++ points qs
points-append ps qs = flat_map-append led_point ps qs

points-one : (p : At) → points (p ∷ []) ≡ space ++ point p
points-one p = rw flat_map-cons (append-nil (space ++ point p))

lists-cons : (ps : List At) (before : List (List At)) (last : List At)
    → lists (ps ∷ push before last) ≡ points ps ++ (codes " ;" ++ lists (push before last))
lists-cons ps [] last = refl
lists-cons ps (qs ∷ before) last = refl

-- a place joins the last list
lists-longer : (before : List (List At)) (last : List At) (p : At)
    → lists (push before (push last p)) ≡ lists (push before last) ++ (space ++ point p)
lists-longer [] last p = points-append last (p ∷ []) ∙ ap (λ (t : List ℕ). points last ++ t) (points-one p)
lists-longer (ps ∷ before) last p =
    lists-cons ps before (push last p) ∙ ap (λ (t : List ℕ). points ps ++ (codes " ;" ++ t)) (lists-longer before last p)
    ∙ sym (append_assoc (points ps) (codes " ;" ++ lists (push before last)) (space ++ point p))
    ∙ ap (λ (t : List ℕ). t ++ (space ++ point p)) (sym (lists-cons ps before last))

-- a place begins a list
lists-more : (before : List (List At)) (last : List At) (p : At)
    → lists (push (push before last) (p ∷ [])) ≡ lists (push before last) ++ (codes " ; " ++ point p)
lists-more [] last p = ap (λ (t : List ℕ). points last ++ (codes " ;" ++ t)) (points-one p)
lists-more (ps ∷ before) last p =
    lists-cons ps (push before last) (p ∷ []) ∙ ap (λ (t : List ℕ). points ps ++ (codes " ;" ++ t)) (lists-more before last p)
    ∙ sym (append_assoc (points ps) (codes " ;" ++ lists (push before last)) (codes " ; " ++ point p))
    ∙ ap (λ (t : List ℕ). t ++ (codes " ; " ++ point p)) (sym (lists-cons ps before last))

-- the text of what items make of lists is the lists' text and the items
one_item : (before : List (List At)) (last : List At) (b : Bool) (p : At)
    → lists (all_lists (added_item b before last p)) ≡ lists (push before last) ++ item_text (b, p)
one_item before last true p = lists-more before last p
one_item before last false p = lists-longer before last p

lists-added : (ls : Lists) (more : List (Bool × At))
    → lists (all_lists (added add_item ls more)) ≡ lists (all_lists ls) ++ flat_map item_text more
lists-added ls [] = sym (append-nil (lists (all_lists ls)))
lists-added ls (i ∷ more) =
    lists-added (add_item ls i) more ∙ ap (λ (t : List ℕ). t ++ flat_map item_text more) (one_item ls.0 ls.1 i.0 i.1)
    ∙ append_assoc (lists (all_lists ls)) (item_text i) (flat_map item_text more)
    ∙ ap (λ (t : List ℕ). lists (all_lists ls) ++ t) (sym (flat_map-cons item_text i more))

-- ---- every lists are made of items

abbrev MadeOf : Lists → List (List At) → Type 0
MadeOf ls all = (more : List (Bool × At)) × AllByRecursion ItemFits more × (all_lists (added add_item ls more) ≡ all)

longer : (later : List (List At)) → ((before : List (List At)) (last : List At) → MadeOf (before, last) (before ++ last ∷ later))
    → (ps : List At) → AllByRecursion IsPoint ps → (before : List (List At)) (last : List At)
    → MadeOf (before, last) (before ++ (last ++ ps) ∷ later)
longer later made_of [] fits before last = rw (append-nil last) (made_of before last)
longer later made_of (p ∷ ps) fits before last =
    let rest = longer later made_of ps fits.1 before (push last p) in
    ((false, p) ∷ rest.0, ((tt, fits.0), rest.1), rest.2 ∙ ap (λ (x : List At). before ++ x ∷ later) (append_assoc last (p ∷ []) ps))

every : (later : List (List At)) → AllByRecursion ArePoints later → (before : List (List At)) (last : List At)
    → MadeOf (before, last) (before ++ last ∷ later)
every [] fits before last = ([], tt, refl)
every ([] ∷ later) fits before last = absurd fits.0.0
every ((p ∷ ps) ∷ later) fits before last =
    let rest = longer later (every later fits.1) ps fits.0.1.1 (push before last) (p ∷ []) in
    ((true, p) ∷ rest.0, ((tt, fits.0.1.0), rest.1), rest.2 ∙ append_assoc before (last ∷ []) ((p ∷ ps) ∷ later))

pub some_are_lists : (p : At) (ps : List At) (later : List (List At)) → ArePoints (p ∷ ps) → AllByRecursion ArePoints later
    → SomeLists ((p ∷ ps) ∷ later) (lists ((p ∷ ps) ∷ later))
some_are_lists p ps later fits later_fit =
    let more = longer later (every later later_fit) ps fits.1.1 [] (p ∷ []) in
    record {
      a = p;
      fits = fits.1.0;
      rest = flat_map item_text more.0;
      parts = ap lists (sym more.2) ∙ lists-added ([], p ∷ []) more.0 ∙ ap (λ (t : List ℕ). t ++ flat_map item_text more.0) (points-one p);
      spelled = record {
        value = added add_item ([], p ∷ []) more.0;
        made = sym more.2;
        spelled = record { items = more.0; fits = more.1; text = refl; value = refl };
      };
    }

-- ---- and items make lists that fit

pub all_push : {A : Type 0} (P : A → Type 0) (xs : List A) (x : A) → AllByRecursion P xs → P x → AllByRecursion P (push xs x)
all_push P [] x all here = (here, tt)
all_push P (y ∷ xs) x all here = (all.0, all_push P xs x all.1 here)

nonempty_push : {A : Type 0} (xs : List A) (x : A) → IsNonempty (push xs x)
nonempty_push [] x = tt
nonempty_push (y ∷ xs) x = tt

item_fits : (before : List (List At)) (last : List At) (b : Bool) (p : At) → AllByRecursion ArePoints before → ArePoints last → IsPoint p
    → AllByRecursion ArePoints (added_item b before last p).0 × ArePoints (added_item b before last p).1
item_fits before last true p fits last_fits point_fits = (all_push ArePoints before last fits last_fits, (tt, (point_fits, tt)))
item_fits before last false p fits last_fits point_fits = (fits, (nonempty_push last p, all_push IsPoint last p last_fits.1 point_fits))

added_fit : (ls : Lists) (more : List (Bool × At)) → AllByRecursion ArePoints ls.0 → ArePoints ls.1 → AllByRecursion ItemFits more
    → AllByRecursion ArePoints (all_lists (added add_item ls more)) × IsNonempty (all_lists (added add_item ls more))
added_fit ls [] before last fits = (all_push ArePoints ls.0 ls.1 before last, nonempty_push ls.0 ls.1)
added_fit ls (i ∷ more) before last fits =
    let next = item_fits ls.0 ls.1 i.0 i.1 before last fits.0.1 in
    added_fit (add_item ls i) more next.0 next.1 fits.1

pub lists_are_some : (ls : List (List At)) (s : List ℕ) → SomeLists ls s → AllByRecursion ArePoints ls × IsNonempty ls × (s ≡ lists ls)
lists_are_some ls s h =
    let row = h.spelled.spelled in
    let is : all_lists (added add_item ([], h.a ∷ []) row.items) ≡ ls = sym (h.spelled.made ∙ ap all_lists row.value) in
    let fit = added_fit ([], h.a ∷ []) row.items tt (tt, (h.fits, tt)) row.fits in
    let text : s ≡ lists (all_lists (added add_item ([], h.a ∷ []) row.items)) =
    h.parts ∙ ap (λ (t : List ℕ). (space ++ point h.a) ++ t) row.text
    ∙ ap (λ (t : List ℕ). t ++ flat_map item_text row.items) (sym (points-one h.a)) ∙ sym (lists-added ([], h.a ∷ []) row.items) in
    subst (λ (all : List (List At)). AllByRecursion ArePoints all × IsNonempty all × (s ≡ lists all)) is (fit.0, fit.1, text)
