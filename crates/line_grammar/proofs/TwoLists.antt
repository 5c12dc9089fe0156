-- This file shows that two lists of names with a semicolon between them are read exactly.
use Rattle.std.proofs.Common.{◌≡◌, ℕ, zero, suc, ◌<◌, Bool, true, false, List, [], ◌∷◌, ◌++◌, length, Result, Ok, Err, refl, sym, ap, subst, ◌∙◌}
use Rattle.std.proofs.Common.{arith, append_assoc}
use Rattle.std.specs.Prelude.{codes, if◌then◌else◌}
use Rattle.std.specs.List.{AllByRecursion}
use Rattle.std.proofs.lemmas.List.{append-nil, length-append, nil_from_length}
use Rattle.std.proofs.lemmas.List.Concat.{flat_map-cons}
use Rattle.line_grammar.specs.declared.fault.ReadError.{ReadError}
use Rattle.line_grammar.specs.declared.fault.ReadError.TheVariants as errors
use Rattle.line_grammar.specs.Pieces.{space, names}
use Rattle.line_grammar.specs.Pieces as pieces
use Rattle.line_grammar.specs.Fitting.{is_letter, IsName, AreNames}
use Rattle.line_grammar.specs.Reading.{◌>>=◌, Fails, literal_at, push}
use Rattle.line_grammar.specs.NameLists.{names_at, marked_name_at, NameLists, second_list_at, two_lists_from, two_lists_behind, two_lists_at}
use Rattle.line_grammar.proofs.Exact.{Exact, Exact-same, Tail, Tail-same, Reads, Token, Then, then, goes_on, Spells}
use Rattle.line_grammar.proofs.Literals.{led, Made, made}
use Rattle.line_grammar.proofs.Pairs.{pair}
use Rattle.line_grammar.proofs.Rows.{Row, IsRowToken, Shrinks, shrinks, bind_fuel}
use Rattle.line_grammar.proofs.SomeRows.{added-push}
use Rattle.line_grammar.proofs.Runs.{Parted}
use Rattle.line_grammar.proofs.Semicolons.{NoSemicolon, semicolon, mark}
use Rattle.line_grammar.proofs.NameTokens.{name, a_is_name}
use Rattle.line_grammar.proofs.NameRows.{led_name, names_behind}
use Rattle.line_grammar.proofs.Choices.{Any}

-- ---- a name with a semicolon before it, or without

letter_no_semicolon : (b : ℕ) → is_letter b ≡ true → b ≡ 59 → ⊥
letter_no_semicolon b e same = let both : true ≡ false = sym e ∙ ap is_letter same in absurd cc

name_no_semicolon : (n t : List ℕ) → IsName n → NoSemicolon (n ++ t)
name_no_semicolon [] t h = absurd h
name_no_semicolon (b ∷ n) t h = letter_no_semicolon b h.0

abbrev mark_and_name : Token (Bool × List ℕ)
mark_and_name = pair (led space semicolon) name (λ n t fits follow. name_no_semicolon n t fits)

marked_reads : (line : List ℕ) → Reads mark_and_name.kind line (marked_name_at line)
unfolding marked_name_at
marked_reads line = mark_and_name.reads line

-- a name behind a space, with or without a semicolon before it
abbrev marked : Token (Bool × List ℕ)
marked = record {
  kind = mark_and_name.kind;
  read = marked_name_at;
  reads = marked_reads;
  sample = mark_and_name.sample;
  sample_fits = mark_and_name.sample_fits;
}

marked_row : IsRowToken marked.kind
marked_row = record {
  nonempty = λ i fits.
      let len = length-append (space ++ mark i.0) i.1 in
      let more = length-append space (mark i.0) in
      omega (arith, len, more);
  follows = λ i t fits. refl;
  ends = tt;
}

-- ---- the texts of two lists

-- s is names, a semicolon and names; c is the first of them behind ns, and the others
record TwoLists (ns : List (List ℕ)) (c : NameLists) (s : List ℕ) : Type 0 where
  first : List (List ℕ)
  second : List (List ℕ)
  first_fit : AllByRecursion IsName first
  second_fit : AreNames second
  text : s ≡ names first ++ (codes " ;" ++ names second)
  value : c ≡ (ns ++ first, second)

-- what follows a name that begins the second list, and what follows one of the first
abbrev After : List (List ℕ) → Bool → List ℕ → NameLists → List ℕ → Type 0
After ns true n = Made (λ more. (ns, more)) (Row led_name.kind push (n ∷ []))
After ns false n = TwoLists (push ns n)

abbrev ItemAndMore : List (List ℕ) → NameLists → List ℕ → Type 0
ItemAndMore ns = Then marked.kind (λ i. After ns i.0 i.1)

item_lists : (ns : List (List ℕ)) (b : Bool) (n : List ℕ) (c : NameLists) (s rest : List ℕ) → IsName n
    → s ≡ (space ++ mark b) ++ (n ++ rest) → After ns b n c rest → TwoLists ns c s
item_lists ns true n c s rest fits parts h =
    let row = h.spelled in
    let is : h.value ≡ n ∷ row.items = row.value ∙ added-push (n ∷ []) row.items in
    record {
      first = [];
      second = n ∷ row.items;
      first_fit = tt;
      second_fit = (tt, (fits, row.fits));
      text =
          parts ∙ ap (λ (t : List ℕ). codes " ; " ++ (n ++ t)) row.text
          ∙ ap (λ (t : List ℕ). codes " ;" ++ t) (sym (flat_map-cons pieces.led_name n row.items));
      value =
          h.made ∙ ap (λ (more : List (List ℕ)). (ns, more)) is
          ∙ ap (λ (before : List (List ℕ)). (before, n ∷ row.items)) (sym (append-nil ns));
    }
item_lists ns false n c s rest fits parts h = record {
  first = n ∷ h.first;
  second = h.second;
  first_fit = (fits, h.first_fit);
  second_fit = h.second_fit;
  text =
      parts ∙ ap (λ (t : List ℕ). space ++ (n ++ t)) h.text
      ∙ sym (append_assoc (space ++ n) (names h.first) (codes " ;" ++ names h.second))
      ∙ ap (λ (t : List ℕ). t ++ (codes " ;" ++ names h.second)) (sym (flat_map-cons pieces.led_name n h.first));
  value = h.value ∙ ap (λ (before : List (List ℕ)). (before, h.second)) (append_assoc ns (n ∷ []) h.first);
}

more_is_lists : (ns : List (List ℕ)) (c : NameLists) (s : List ℕ) → ItemAndMore ns c s → TwoLists ns c s
more_is_lists ns c s h =
    item_lists ns h.a.0 h.a.1 c s h.rest h.fits.1 (h.parts ∙ append_assoc (space ++ mark h.a.0) h.a.1 h.rest) h.spelled

lists_item : (ns first second : List (List ℕ)) (c : NameLists) (s : List ℕ) → AllByRecursion IsName first → AreNames second
    → s ≡ names first ++ (codes " ;" ++ names second) → c ≡ (ns ++ first, second) → ItemAndMore ns c s
lists_item ns [] [] c s fits also text value = absurd also.0
lists_item ns [] (n ∷ more) c s fits also text value = record {
  a = (true, n);
  fits = (tt, also.1.0);
  rest = names more;
  parts = text ∙ ap (λ (t : List ℕ). codes " ;" ++ t) (flat_map-cons pieces.led_name n more);
  spelled = record {
    value = n ∷ more;
    made = value ∙ ap (λ (before : List (List ℕ)). (before, n ∷ more)) (append-nil ns);
    spelled = record { items = more; fits = also.1.1; text = refl; value = sym (added-push (n ∷ []) more) };
  };
}
lists_item ns (n ∷ first) second c s fits also text value = record {
  a = (false, n);
  fits = (tt, fits.0);
  rest = names first ++ (codes " ;" ++ names second);
  parts =
      text ∙ ap (λ (t : List ℕ). t ++ (codes " ;" ++ names second)) (flat_map-cons pieces.led_name n first)
      ∙ append_assoc (space ++ n) (names first) (codes " ;" ++ names second);
  spelled = record {
    first = first;
    second = second;
    first_fit = fits.1;
    second_fit = also;
    text = refl;
    value = value ∙ ap (λ (before : List (List ℕ)). (before, second)) (sym (append_assoc ns (n ∷ []) first));
  };
}

lists_are_more : (ns : List (List ℕ)) (c : NameLists) (s : List ℕ) → TwoLists ns c s → ItemAndMore ns c s
lists_are_more ns c s h = lists_item ns h.first h.second c s h.first_fit h.second_fit h.text h.value

-- ---- they are read exactly

lists_parted : (ns : List (List ℕ)) (c : NameLists) (s : List ℕ) → TwoLists ns c s → Parted s
lists_parted ns c s h = let more = lists_are_more ns c s h in subst Parted (sym more.parts) refl

after_parted : (ns : List (List ℕ)) (b : Bool) (n : List ℕ) (c : NameLists) (s : List ℕ) → After ns b n c s → Parted s
after_parted ns true n c s h = (names_behind n).stands h.value s h.spelled
after_parted ns false n c s h = lists_parted (push ns n) c s h

-- the second list is the name a
some_lists : (ns : List (List ℕ)) → TwoLists ns (ns ++ [], (97 ∷ []) ∷ []) (codes " ; a")
some_lists ns = record {
  first = [];
  second = (97 ∷ []) ∷ [];
  first_fit = tt;
  second_fit = (tt, (a_is_name, tt));
  text = refl;
  value = refl;
}

some_after : (ns : List (List ℕ)) (b : Bool) (n : List ℕ) → (c : NameLists) × (s : List ℕ) × After ns b n c s
some_after ns true n = (
  (ns, n ∷ []),
  [],
  record { value = n ∷ []; made = refl; spelled = record { items = []; fits = tt; text = refl; value = refl } },
)
some_after ns false n = ((push ns n ++ [], (97 ∷ []) ∷ []), codes " ; a", some_lists (push ns n))

abbrev read_on : ℕ → List (List ℕ) → Bool → List ℕ → List ℕ → Result NameLists ℕ
read_on m ns b n rest = if b then second_list_at ns n rest else two_lists_from m (push ns n) rest

after_exact : (m : ℕ) (ns : List (List ℕ)) (b : Bool) (n rest : List ℕ)
    → Exact (TwoLists (push ns n)) rest (two_lists_from m (push ns n) rest) → Exact (After ns b n) rest (read_on m ns b n rest)
after_exact m ns true n rest x =
    (made Parted (λ more. (ns, more)) (Row led_name.kind push (n ∷ [])) (names_at (n ∷ [])) (names_behind n)).exact rest
after_exact m ns false n rest x = x

item_step : (m : ℕ) (ns : List (List ℕ)) (line : List ℕ) → length line < suc m
    → ((s : List (List ℕ)) (rest : List ℕ) → length rest < m → Exact (TwoLists s) rest (two_lists_from m s rest))
    → (r : Result ((Bool × List ℕ) × List ℕ) ℕ) → Reads marked.kind line r
    → Exact (ItemAndMore ns) line (r >>= λ x. read_on m ns x.0.0 x.0.1 x.1)
item_step m ns line lt next (Ok x) took =
    let some = marked_row.nonempty x.0 took.fits in
    let len = ap length took.parts ∙ length-append (marked.kind.text x.0) x.1 in
    goes_on marked.kind (λ i. After ns i.0 i.1) line x.0 x.1 took (λ i fits c t h. after_parted ns i.0 i.1 c t h)
    (read_on m ns x.0.0 x.0.1 x.1) (after_exact m ns x.0.0 x.0.1 x.1 (next (push ns x.0.1) x.1 (omega (arith, lt, len, some))))
item_step m ns line lt next (Err left) stuck =
    let some = some_after ns stuck.sample.0 stuck.sample.1 in
    record {
      within = stuck.within;
      value = some.0;
      text = marked.kind.text stuck.sample ++ some.1;
      spelled = record { a = stuck.sample; fits = stuck.fits; rest = some.1; parts = refl; spelled = some.2 };
      reached = stuck.reached some.1;
      furthest = λ c s h.
          rw (h.parts) (stuck.furthest h.a h.rest h.fits (after_parted ns h.a.0 h.a.1 c h.rest h.spelled));
    }

lists_exact : (m : ℕ) (ns : List (List ℕ)) (line : List ℕ) → length line < m → Exact (TwoLists ns) line (two_lists_from m ns line)
unfolding two_lists_from
lists_exact zero ns line lt = absurd (omega (arith, lt))
lists_exact (suc m) ns line lt =
    Exact-same (ItemAndMore ns) (TwoLists ns) line (marked_name_at line >>= λ x. read_on m ns x.0.0 x.0.1 x.1)
    (more_is_lists ns) (lists_are_more ns)
    (item_step m ns line lt (λ s rest less. lists_exact m s rest less) (marked_name_at line) (marked_reads line))

lists_behind : (ns : List (List ℕ)) → Tail Parted (TwoLists ns) (two_lists_behind ns)
lists_behind ns = record {
  exact = λ line. lists_exact (suc (length line)) ns line (omega arith);
  value = (ns ++ [], (97 ∷ []) ∷ []);
  text = codes " ; a";
  spelled = some_lists ns;
  stands = lists_parted ns;
}

abbrev TwoFit : NameLists → Type 0
TwoFit l = AreNames l.0 × AreNames l.1

abbrev two_text : NameLists → List ℕ
two_text l = names l.0 ++ (codes " ;" ++ names l.1)

abbrev FirstAndLists : NameLists → List ℕ → Type 0
FirstAndLists = Then led_name.kind (λ n. TwoLists (n ∷ []))

first_spells : (l : NameLists) (s : List ℕ) → FirstAndLists l s → Spells TwoFit two_text l s
first_spells l s h =
    let lists = h.spelled in
    let whole : s ≡ names (h.a ∷ lists.first) ++ (codes " ;" ++ names lists.second) =
    h.parts ∙ ap (λ (t : List ℕ). (space ++ h.a) ++ t) lists.text
    ∙ sym (append_assoc (space ++ h.a) (names lists.first) (codes " ;" ++ names lists.second))
    ∙ ap (λ (t : List ℕ). t ++ (codes " ;" ++ names lists.second)) (sym (flat_map-cons pieces.led_name h.a lists.first)) in
    subst (λ (k : NameLists). Spells TwoFit two_text k s) (sym lists.value) (((tt, (h.fits, lists.first_fit)), lists.second_fit), whole)

parts_first : (first second : List (List ℕ)) (s : List ℕ) → AreNames first → AreNames second
    → s ≡ names first ++ (codes " ;" ++ names second) → FirstAndLists (first, second) s
parts_first [] second s fits also text = absurd fits.0
parts_first (n ∷ first) second s fits also text = record {
  a = n;
  fits = fits.1.0;
  rest = names first ++ (codes " ;" ++ names second);
  parts =
      text ∙ ap (λ (t : List ℕ). t ++ (codes " ;" ++ names second)) (flat_map-cons pieces.led_name n first)
      ∙ append_assoc (space ++ n) (names first) (codes " ;" ++ names second);
  spelled = record {
    first = first;
    second = second;
    first_fit = fits.1.1;
    second_fit = also;
    text = refl;
    value = refl;
  };
}

-- two lists of names are read exactly
pub two_lists : Tail Any (Spells TwoFit two_text) two_lists_at
unfolding two_lists_at
two_lists =
    Tail-same Any FirstAndLists (Spells TwoFit two_text) two_lists_at first_spells
    (λ l s h. parts_first l.0 l.1 s h.0.0 h.0.1 h.1)
    ((then) led_name Any (λ n. TwoLists (n ∷ [])) (λ n. two_lists_behind (n ∷ [])) (λ n fits. lists_behind (n ∷ [])) (λ n t fits. tt))

-- ---- the loop over the names

marked_shrinks : Shrinks marked_name_at
marked_shrinks = shrinks marked marked_row

pub marked_shorter : (line : List ℕ) (x : (Bool × List ℕ) × List ℕ) → marked_name_at line ≡ Ok x → length x.1 < length line
marked_shorter line x e = marked_shrinks line x e

on_same : (m k : ℕ) (ns : List (List ℕ)) (b : Bool) (n rest : List ℕ)
    → two_lists_from m (push ns n) rest ≡ two_lists_from k (push ns n) rest → read_on m ns b n rest ≡ read_on k ns b n rest
on_same m k ns true n rest same = refl
on_same m k ns false n rest same = same

lists_fuel : (m k : ℕ) (ns : List (List ℕ)) (line : List ℕ) → length line < m → length line < k
    → two_lists_from m ns line ≡ two_lists_from k ns line
unfolding two_lists_from
lists_fuel zero k ns line in_m in_k = absurd (omega (arith, in_m))
lists_fuel (suc m) zero ns line in_m in_k = absurd (omega (arith, in_k))
lists_fuel (suc m) (suc k) ns line in_m in_k =
    bind_fuel (marked_name_at line) (λ x. read_on m ns x.0.0 x.0.1 x.1) (λ x. read_on k ns x.0.0 x.0.1 x.1)
    (λ x e. let less = marked_shrinks line x e in
    on_same m k ns x.0.0 x.0.1 x.1 (lists_fuel m k (push ns x.0.1) x.1 (omega (arith, less, in_m)) (omega (arith, less, in_k))))

-- a name, and then what it asks for
lists_more : (ns : List (List ℕ)) (line : List ℕ)
    → two_lists_behind ns line ≡ (marked_name_at line >>= λ x. read_on (suc (length x.1)) ns x.0.0 x.0.1 x.1)
unfolding two_lists_from
lists_more ns line =
    bind_fuel (marked_name_at line) (λ x. read_on (length line) ns x.0.0 x.0.1 x.1) (λ x. read_on (suc (length x.1)) ns x.0.0 x.0.1 x.1)
    (λ x e. let less = marked_shrinks line x e in
    on_same (length line) (suc (length x.1)) ns x.0.0 x.0.1 x.1
    (lists_fuel (length line) (suc (length x.1)) (push ns x.0.1) x.1 less (omega arith)))

-- the name joins the first list
pub lists_goes : (ns : List (List ℕ)) (rest n after : List ℕ) (total : Result NameLists ℕ) → marked_name_at rest ≡ Ok ((false, n), after)
    → two_lists_behind ns rest ≡ total → two_lists_behind (push ns n) after ≡ total
lists_goes ns rest n after total found so_far =
    let step : two_lists_behind ns rest ≡ two_lists_behind (push ns n) after = rw (lists_more ns rest, found) refl in
    sym step ∙ so_far

-- the name begins the second list
pub lists_part : (ns : List (List ℕ)) (rest n after : List ℕ) (total : Result NameLists ℕ) → marked_name_at rest ≡ Ok ((true, n), after)
    → two_lists_behind ns rest ≡ total → second_list_at ns n after ≡ total
lists_part ns rest n after total found so_far =
    let step : two_lists_behind ns rest ≡ second_list_at ns n after = rw (lists_more ns rest, found) refl in
    sym step ∙ so_far

-- where a name stops, the lists stop
pub lists_fail : (e : ReadError) (ns : List (List ℕ)) (rest : List ℕ) (total : Result NameLists ℕ) → Fails e (marked_name_at rest)
    → two_lists_behind ns rest ≡ total → Fails e total
lists_fail errors.NoMemory ns rest total stopped so_far = tt
lists_fail (errors.Stopped left) ns rest total stopped so_far =
    let step : two_lists_behind ns rest ≡ Err left = rw (lists_more ns rest, stopped) refl in
    sym so_far ∙ step

-- where the line ends, the semicolon is still to come
pub lists_ended : (ns : List (List ℕ)) (rest : List ℕ) (total : Result NameLists ℕ) → length rest ≡ 0
    → two_lists_behind ns rest ≡ total → total ≡ Err 0
unfolding marked_name_at literal_at
lists_ended ns rest total none so_far =
    let step : two_lists_behind ns [] ≡ Err 0 = lists_more ns [] in
    sym so_far ∙ ap (two_lists_behind ns) (nil_from_length rest none) ∙ step
