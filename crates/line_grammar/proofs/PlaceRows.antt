-- This file shows that places, and rows of them, are read exactly.
use Rattle.std.proofs.Common.{◌≡◌, ℕ, ◌<◌, List, [], length, Result, Ok, Err, refl, sym, ap, subst, ◌∙◌, arith, inl, inr}
use Rattle.std.specs.List.{AllByRecursion}
use Rattle.std.proofs.lemmas.List.{nil_from_length}
use Rattle.line_grammar.specs.declared.command.At.{At}
use Rattle.line_grammar.specs.declared.fault.ReadError.{ReadError}
use Rattle.line_grammar.specs.Pieces.{space, point, points}
use Rattle.line_grammar.specs.Fitting.{IsPoint}
use Rattle.line_grammar.specs.Reading.{◌>>=◌, Fails, literal_at, number_at, point_at, led_point_at, points_at, push}
use Rattle.line_grammar.proofs.Exact.{Kind, Reads, Token, Tail, Tail-same, Spells}
use Rattle.line_grammar.proofs.Literals.{led}
use Rattle.line_grammar.proofs.Pairs.{pair}
use Rattle.line_grammar.proofs.Rows.{Row, IsRowToken, rows, Shrinks, shrinks, rows_ended}
use Rattle.line_grammar.proofs.SomeRows.{added-push, row_goes, row_fails}
use Rattle.line_grammar.proofs.Runs.{Parted}
use Rattle.line_grammar.proofs.Numbers.{number}

-- two numbers with a space between them
abbrev two_numbers : Token (ℕ × ℕ)
two_numbers = pair number (led space number) (λ n t fits parted. refl)

abbrev at_of : ℕ × ℕ → At
at_of p = record { x = p.0; y = p.1 }

abbrev numbers_of : At → ℕ × ℕ
numbers_of p = (p.x, p.y)

abbrev pub place_kind : Kind At
place_kind = record { text = point; fits = IsPoint; follow = Parted }

-- two numbers, made a place
point_reads : (line : List ℕ) (r : Result ((ℕ × ℕ) × List ℕ) ℕ) → Reads two_numbers.kind line r
    → Reads place_kind line (r >>= λ x. Ok (at_of x.0, x.1))
point_reads line (Ok x) took = record {
  fits = took.fits;
  parts = took.parts;
  apart = λ p t fits follow. elim (took.apart (numbers_of p) t fits follow) [
    | inl same ↦ inl (ap at_of same)
    | inr less ↦ inr less
  ];
}
point_reads line (Err left) stuck = record {
  within = stuck.within;
  sample = at_of stuck.sample;
  fits = stuck.fits;
  reached = stuck.reached;
  furthest = λ p t fits follow. stuck.furthest (numbers_of p) t fits follow;
}

bind-bind : {A B C : Type 0} (r : Result A ℕ) (f : A → Result B ℕ) (g : B → Result C ℕ) → ((r >>= f) >>= g) ≡ (r >>= λ x. f x >>= g)
bind-bind (Ok x) f g = refl
bind-bind (Err left) f g = refl

bind-same : {A B : Type 0} (r : Result A ℕ) (f g : A → Result B ℕ) → ((x : A) → f x ≡ g x) → (r >>= f) ≡ (r >>= g)
bind-same (Ok x) f g same = same x
bind-same (Err left) f g same = refl

abbrev pair_with : ℕ → ℕ × List ℕ → Result ((ℕ × ℕ) × List ℕ) ℕ
pair_with x y = Ok ((x, y.0), y.1)

abbrev make_place : (ℕ × ℕ) × List ℕ → Result (At × List ℕ) ℕ
make_place x = Ok (at_of x.0, x.1)

abbrev place_with : ℕ → ℕ × List ℕ → Result (At × List ℕ) ℕ
place_with x y = Ok (at_of (x, y.0), y.1)

abbrev second_number : ℕ × List ℕ → Result ((ℕ × ℕ) × List ℕ) ℕ
second_number x = (literal_at space x.1 >>= number_at) >>= pair_with x.0

abbrev second_place : ℕ × List ℕ → Result (At × List ℕ) ℕ
second_place x = literal_at space x.1 >>= λ rest. number_at rest >>= place_with x.0

-- reading two numbers and then making a place is reading a place
point_is : (r : Result (ℕ × List ℕ) ℕ) → ((r >>= second_number) >>= make_place) ≡ (r >>= second_place)
point_is r = bind-bind r second_number make_place ∙ bind-same r (λ x. second_number x >>= make_place) second_place
    (λ x. bind-bind (literal_at space x.1 >>= number_at) (pair_with x.0) make_place
    ∙ bind-bind (literal_at space x.1) number_at (place_with x.0))

pub place_reads : (line : List ℕ) → Reads place_kind line (point_at line)
unfolding point_at
place_reads line = subst (Reads place_kind line) (point_is (number_at line))
    (point_reads line (two_numbers.read line) (two_numbers.reads line))

pub origin : At
origin = record { x = 0; y = 0 }

pub origin_fits : IsPoint origin
unfolding origin
origin_fits = (omega arith, omega arith)

abbrev pub place : Token At
place = record { kind = place_kind; read = point_at; reads = place_reads; sample = origin; sample_fits = origin_fits }

pub led_place_reads : (line : List ℕ) → Reads (led space place).kind line (led_point_at line)
unfolding led_point_at
led_place_reads line = (led space place).reads line

abbrev pub led_place : Token At
led_place = record {
  kind = (led space place).kind;
  read = led_point_at;
  reads = led_place_reads;
  sample = origin;
  sample_fits = origin_fits;
}

place_row : IsRowToken led_place.kind
place_row = record {
  nonempty = λ p fits. omega arith;
  follows = λ p t fits. refl;
  ends = tt;
}

row_spells : (ps : List At) (s : List ℕ) → Row led_place.kind push [] ps s → Spells (AllByRecursion IsPoint) points ps s
row_spells ps s h =
    let items : ps ≡ h.items = h.value ∙ added-push [] h.items in
    subst (λ (qs : List At). Spells (AllByRecursion IsPoint) points qs s) (sym items) (h.fits, h.text)

spells_row : (ps : List At) (s : List ℕ) → Spells (AllByRecursion IsPoint) points ps s → Row led_place.kind push [] ps s
spells_row ps s h = record { items = ps; fits = h.0; text = h.1; value = sym (added-push [] ps) }

rows_of_places : Tail Parted (Row led_place.kind push []) (points_at [])
unfolding points_at
rows_of_places = rows led_place push [] place_row

-- places up to the end of the line are read exactly
pub places : Tail Parted (Spells (AllByRecursion IsPoint) points) (points_at [])
places = Tail-same Parted (Row led_place.kind push []) (Spells (AllByRecursion IsPoint) points)
    (points_at []) row_spells spells_row rows_of_places

-- ---- the loop over the places

led_point_shrinks : Shrinks led_point_at
led_point_shrinks = shrinks led_place place_row

pub points_ended : (ps : List At) (line : List ℕ) → length line ≡ 0 → points_at ps line ≡ Ok ps
unfolding points_at
points_ended ps line none = rw (nil_from_length line none) (rows_ended led_point_at push ps)

pub points_shorter : (line : List ℕ) (x : At × List ℕ) → led_point_at line ≡ Ok x → length x.1 < length line
points_shorter line x e = led_point_shrinks line x e

pub points_goes : (ps : List At) (rest : List ℕ) (p : At) (after : List ℕ) (total : Result (List At) ℕ) → 0 < length rest
    → led_point_at rest ≡ Ok (p, after) → points_at ps rest ≡ total → points_at (push ps p) after ≡ total
unfolding points_at
points_goes ps rest p after total some found so_far =
    row_goes led_point_at push led_point_shrinks ps rest p after total some found so_far

pub points_fail : (e : ReadError) (ps : List At) (rest : List ℕ) (total : Result (List At) ℕ) → 0 < length rest
    → Fails e (led_point_at rest) → points_at ps rest ≡ total → Fails e total
unfolding points_at
points_fail e ps rest total some stopped so_far =
    row_fails e led_point_at push led_point_shrinks ps rest total some stopped so_far
