-- Bytes that are read behind the first ones of a block.
use Rattle.std.proofs.Common.{◌≡◌, ℕ, ◌+◌, ◌-◌, ◌≤◌, List, ◌++◌, length, take, drop, Option, arith, sym, ap, subst, ◌∙◌, length-take}
use Rattle.std.proofs.{Math.Seq.{take-append-add, take-append_seam, drop-drop}, lemmas.List.{drop-take}}
use Rattle.std.specs.{Io.KnownBytes.{Consumes}, List.{slice_range}}
use Rattle.schedule_lines.specs.bytes.Reading.{ReadsOn}

-- what is read behind the first bytes stands behind them
pub read_behind : (bytes read : List ℕ) (end count : ℕ) → end ≤ length bytes →
    take (end + count) (take end bytes ++ read) ≡ take end bytes ++ take count read
read_behind bytes read end count within =
    let front = length-take end bytes in
    let same : length (take end bytes) ≡ end = omega (arith, front) in
    ap (λ n. take (n + count) (take end bytes ++ read)) (sym same) ∙ take-append-add (take end bytes) read count

-- what stands from the start of a block
from_start : (block : List ℕ) (start n : ℕ) → start ≡ 0 → slice_range block start n ≡ take n block
from_start block start n at_start = rw at_start (grind arith)

-- a block that was written as a whole
pub written_whole : (n : ℕ) (block rest : List ℕ) → n ≡ length block → take n (block ++ rest) ≡ block
written_whole n block rest e = ap (λ k. take k (block ++ rest)) e ∙ take-append_seam block rest

-- a read behind the pending bytes, which stand at the start of the block, lets these grow
pub pending_grow : (left left_now left_after : Option (List ℕ)) (pending block block_after bytes_after : List ℕ) (start end count : ℕ) →
    ReadsOn left_now left_after (take end block) (take (end + count) block_after) count →
    left_now ≡ left → start ≡ 0 → slice_range block start end ≡ pending → bytes_after ≡ block_after →
    ReadsOn left left_after pending (slice_range bytes_after start (end + count)) count
pending_grow left left_now left_after pending block block_after bytes_after start end count reads same at_start stands written = record {
  more = reads.more;
  grown = from_start bytes_after start (end + count) at_start
      ∙ ap (take (end + count)) written
      ∙ reads.grown
      ∙ ap (λ l. l ++ reads.more) (sym (from_start block start end at_start) ∙ stands);
  counted = reads.counted;
  lost = subst (λ l. Consumes l left_after reads.more) same reads.lost;
}

-- what is taken are the first of the pending bytes
pub first_taken : (bytes : List ℕ) (start end count : ℕ) → count ≤ end - start →
    slice_range bytes (start + count) end ≡ drop count (slice_range bytes start end)
first_taken bytes start end count within =
    let all : end - start ≡ count + (end - (start + count)) = omega arith in
    sym (ap (λ n. drop count (take n (drop start bytes))) all
    ∙ drop-take count (end - (start + count)) (drop start bytes)
    ∙ ap (take (end - (start + count))) (drop-drop count start bytes))
