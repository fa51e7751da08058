-- What a word has after a write of one.
use Rattle.std.proofs.Common.{◌≡◌, ℕ, arith}
use Rattle.cpu_words.specs.{declared.names.WordName.{WordName}, Words.{Words, read, put}}

-- after a write of a word it has what was written
pub read_put_same : (w : Words) (name : WordName) (v : ℕ) → read (put w name v) name ≡ v
read_put_same w name v = grind arith

-- a write of one word leaves every other
pub read_put_other : (w : Words) (v : ℕ) (name other : WordName) → (other ≡ name → ⊥) → read (put w name v) other ≡ read w other
read_put_other w v name other ne = grind (arith, ne)
