-- What a read does to the bytes that are pending.
use Rattle.std.specs.{Prelude.{◌≡◌, ℕ, List, ◌++◌, length, Option}, Io.KnownBytes.{Consumes}}

-- the pending bytes grow by so many that the reader loses
pub record ReadsOn (left left_after : Option (List ℕ)) (pending pending_after : List ℕ) (count : ℕ) : Type 0 where
  pub more : List ℕ
  pub grown : pending_after ≡ pending ++ more
  pub counted : length more ≡ count
  pub lost : Consumes left left_after more
