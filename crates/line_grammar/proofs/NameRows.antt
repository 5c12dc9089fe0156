-- This file shows that one or more names, and names with their keys, are read exactly up to the end of the line.
use Rattle.std.proofs.Common.{◌≡◌, ℕ, ◌<◌, List, [], ◌∷◌, length, Result, Ok, refl, arith}
use Rattle.std.proofs.lemmas.List.{nil_from_length}
use Rattle.line_grammar.specs.declared.fault.ReadError.{ReadError}
use Rattle.line_grammar.specs.Pieces.{space, names, keyed_names}
use Rattle.line_grammar.specs.Fitting.{AreNames, AreKeyed}
use Rattle.line_grammar.specs.Reading.{Fails, led_name_at, push}
use Rattle.line_grammar.specs.NameLists.{names_at, some_names_at, led_number_at, led_keyed_at, keyed_at, some_keyed_at}
use Rattle.line_grammar.proofs.Exact.{Reads, Token, Tail, Spells}
use Rattle.line_grammar.proofs.Literals.{led}
use Rattle.line_grammar.proofs.Pairs.{pair}
use Rattle.line_grammar.proofs.Rows.{Row, IsRowToken, rows, Shrinks, shrinks, rows_ended}
use Rattle.line_grammar.proofs.SomeRows.{some_rows, row_goes, row_fails}
use Rattle.line_grammar.proofs.Runs.{Parted}
use Rattle.line_grammar.proofs.NameTokens.{name, a_is_name}
use Rattle.line_grammar.proofs.Numbers.{number}
use Rattle.line_grammar.proofs.Choices.{Any}

-- ---- names

pub led_name_reads : (line : List ℕ) → Reads (led space name).kind line (led_name_at line)
unfolding led_name_at
led_name_reads line = (led space name).reads line

-- a name behind a space
abbrev pub led_name : Token (List ℕ)
led_name = record {
  kind = (led space name).kind;
  read = led_name_at;
  reads = led_name_reads;
  sample = 97 ∷ [];
  sample_fits = a_is_name;
}

pub name_row : IsRowToken led_name.kind
name_row = record {
  nonempty = λ n fits. omega arith;
  follows = λ n t fits. refl;
  ends = tt;
}

pub some_names : Tail Any (Spells AreNames names) some_names_at
unfolding some_names_at names_at
some_names = some_rows led_name Any name_row (λ n t fits. tt)

-- names behind n
pub names_behind : (n : List ℕ) → Tail Parted (Row led_name.kind push (n ∷ [])) (names_at (n ∷ []))
unfolding names_at
names_behind n = rows led_name push (n ∷ []) name_row

-- ---- names with keys

led_number_reads : (line : List ℕ) → Reads (led space number).kind line (led_number_at line)
unfolding led_number_at
led_number_reads line = (led space number).reads line

-- a number behind a space
abbrev led_number : Token ℕ
led_number = record {
  kind = (led space number).kind;
  read = led_number_at;
  reads = led_number_reads;
  sample = (led space number).sample;
  sample_fits = (led space number).sample_fits;
}

abbrev name_and_key : Token (List ℕ × ℕ)
name_and_key = pair led_name led_number (λ n t fits parted. refl)

led_keyed_reads : (line : List ℕ) → Reads name_and_key.kind line (led_keyed_at line)
unfolding led_keyed_at
led_keyed_reads line = name_and_key.reads line

-- a name and its key, each behind a space
abbrev led_keyed : Token (List ℕ × ℕ)
led_keyed = record {
  kind = name_and_key.kind;
  read = led_keyed_at;
  reads = led_keyed_reads;
  sample = name_and_key.sample;
  sample_fits = name_and_key.sample_fits;
}

keyed_row : IsRowToken led_keyed.kind
keyed_row = record {
  nonempty = λ k fits. omega arith;
  follows = λ k t fits. refl;
  ends = tt;
}

pub some_keyed : Tail Any (Spells AreKeyed keyed_names) some_keyed_at
unfolding some_keyed_at keyed_at
some_keyed = some_rows led_keyed Any keyed_row (λ k t fits. tt)

-- ---- the loops over them

name_shrinks : Shrinks led_name_at
name_shrinks = shrinks led_name name_row

pub names_shorter : (line : List ℕ) (x : List ℕ × List ℕ) → led_name_at line ≡ Ok x → length x.1 < length line
names_shorter line x e = name_shrinks line x e

pub names_ended : (ns : List (List ℕ)) (line : List ℕ) → length line ≡ 0 → names_at ns line ≡ Ok ns
unfolding names_at
names_ended ns line none = rw (nil_from_length line none) (rows_ended led_name_at push ns)

pub names_goes : (ns : List (List ℕ)) (rest n after : List ℕ) (total : Result (List (List ℕ)) ℕ) → 0 < length rest
    → led_name_at rest ≡ Ok (n, after) → names_at ns rest ≡ total → names_at (push ns n) after ≡ total
unfolding names_at
names_goes ns rest n after total some found so_far = row_goes led_name_at push name_shrinks ns rest n after total some found so_far

pub names_fail : (e : ReadError) (ns : List (List ℕ)) (rest : List ℕ) (total : Result (List (List ℕ)) ℕ) → 0 < length rest
    → Fails e (led_name_at rest) → names_at ns rest ≡ total → Fails e total
unfolding names_at
names_fail e ns rest total some stopped so_far = row_fails e led_name_at push name_shrinks ns rest total some stopped so_far

keyed_shrinks : Shrinks led_keyed_at
keyed_shrinks = shrinks led_keyed keyed_row

pub keyed_shorter : (line : List ℕ) (x : (List ℕ × ℕ) × List ℕ) → led_keyed_at line ≡ Ok x → length x.1 < length line
keyed_shorter line x e = keyed_shrinks line x e

pub keyed_ended : (ks : List (List ℕ × ℕ)) (line : List ℕ) → length line ≡ 0 → keyed_at ks line ≡ Ok ks
unfolding keyed_at
keyed_ended ks line none = rw (nil_from_length line none) (rows_ended led_keyed_at push ks)

pub keyed_goes : (ks : List (List ℕ × ℕ)) (rest : List ℕ) (k : List ℕ × ℕ) (after : List ℕ) (total : Result (List (List ℕ × ℕ)) ℕ)
    → 0 < length rest → led_keyed_at rest ≡ Ok (k, after) → keyed_at ks rest ≡ total → keyed_at (push ks k) after ≡ total
unfolding keyed_at
keyed_goes ks rest k after total some found so_far = row_goes led_keyed_at push keyed_shrinks ks rest k after total some found so_far

pub keyed_fail : (e : ReadError) (ks : List (List ℕ × ℕ)) (rest : List ℕ) (total : Result (List (List ℕ × ℕ)) ℕ) → 0 < length rest
    → Fails e (led_keyed_at rest) → keyed_at ks rest ≡ total → Fails e total
unfolding keyed_at
keyed_fail e ks rest total some stopped so_far = row_fails e led_keyed_at push keyed_shrinks ks rest total some stopped so_far
