use Rattle.std.proofs.Common.{◌≡◌, ℕ, List, ◌++◌, length, take, drop, ap, ◌∙◌, arith}
use Rattle.std.specs.Int.{w64, to_be_bytes}
use Rattle.std.proofs.lemmas.List.{take_at}
use Rattle.record_codec.specs.Spelling.{string, body, record_text}
use Rattle.record_codec.proofs.NumberLemmas.{length_before}
use Rattle.record_codec.proofs.recording.push_record.Goals as goal

-- the length is written over the bytes that were left for it before the body
pub returns : goal.returns
unfolding record_text
returns c =
    let old = c.args.out.now.items in
    let items = c.push_body.new.out.items in
    let built : items ≡ (old ++ to_be_bytes w64 0) ++ body c.args.r.now =
    c.in_ok-push_body.ensures ∙ ap (λ (l : List ℕ). l ++ body c.args.r.now) c.in_ok-push_eight.ensures in
    let start : c.len-start.result ≡ length old = omega (arith, c.len-start.ensures, c.args.out.now.ok) in
    let size : length c.put_length.new.bytes ≡ c.push_body.new.out.len =
    omega (arith, c.put_length.auto.bytes, c.as_mut_slice.ensures.len, ap length c.as_mut_slice.ensures.value) in
    take_at c.put_length.new.bytes (drop (length c.put_length.new.bytes) items) c.push_body.new.out.len size
    ∙ c.put_length.ensures
    ∙ ap (λ (l : List ℕ). take c.len-start.result l ++ string w64 (drop 8 (drop c.len-start.result l))) c.as_mut_slice.ensures.value
    ∙ ap (λ (n : ℕ). take n items ++ string w64 (drop 8 (drop n items))) start
    ∙ length_before old (body c.args.r.now) items built
