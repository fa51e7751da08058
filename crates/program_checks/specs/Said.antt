-- What lines of a file say that is printed.
use Rattle.program_checks.specs.declared.said.Said.{Said, TheVariants.{Line, More}}
use Rattle.schedule_lines.specs.declared.output.Output.{Output}
use Rattle.std.specs.{Prelude.{◌≡◌, ℕ, ◌-◌, ◌≤◌, Bool, true, false, List, [], ◌∷◌, ◌++◌, ◌==◌, Option, Some, None, length, take, drop, codes}, Cmp.Lexicographic.{pointwise}, List.{All, fold}}

-- a line begins with a mark
abbrev pub begins_with : List ℕ → List ℕ → Bool
begins_with mark line = pointwise (λ a b. a == b) (take (length mark) line) mark

-- what was said without its last newline
abbrev pub unended : List ℕ → List ℕ
unended said = take (length said - 1) said

-- what is said once a line has been read, by whether it begins with `#>+`, with `#> `, and with `#>`
abbrev pub says_with : Bool → Bool → Bool → List ℕ → List ℕ → List ℕ
says_with true spaced marked said line = unended said ++ (drop 3 line ++ codes "\n")
says_with false true marked said line = said ++ (drop 3 line ++ codes "\n")
says_with false false true said line = said ++ (drop 2 line ++ codes "\n")
says_with false false false said line = said

-- the same: `#> TEXT` says a line, `#>+TEXT` says more of the line before it, and all other lines say nothing
unfoldable pub says_line : List ℕ → List ℕ → List ℕ
says_line said line = says_with (begins_with (codes "#>+") line) (begins_with (codes "#> ") line) (begins_with (codes "#>") line) said line

-- what these lines say that is printed
abbrev pub said_by : List (List ℕ) → List ℕ
said_by lines = fold says_line [] lines

-- this is what a line says
abbrev pub IsSaidIn : List ℕ → Option Said → Type 0
IsSaidIn line None = (said : List ℕ) → says_line said line ≡ said
IsSaidIn line (Some (Line text)) = (said : List ℕ) → says_line said line ≡ said ++ (text.now ++ codes "\n")
IsSaidIn line (Some (More text)) = (said : List ℕ) → says_line said line ≡ unended said ++ (text.now ++ codes "\n")

-- Lines are read: where there was memory for all that is said with them, there was for all before, and it is what is said with them.
pub record SaysMore (old new : Output) (lines : List (List ℕ)) : Type 0 where
  pub whole : new.is_whole ≡ true → old.is_whole ≡ true
  pub said : new.is_whole ≡ true → new.bytes.items ≡ fold says_line old.bytes.items lines

-- lines as they stand in a file
abbrev pub text_of : List (List ℕ) → List ℕ
text_of [] = []
text_of (line ∷ lines) = (line ++ codes "\n") ++ text_of lines

-- These lines say a text, whatever was said before, and none of them is longer than a line may be.
pub record Say (lines : List (List ℕ)) (text : List ℕ) : Type 0 where
  pub said : (before : List ℕ) → fold says_line before lines ≡ before ++ text
  pub short : All (λ line. length line ≤ 256) lines

-- Lines that say a text are put: where there was memory for them, there was for all before, and they stand behind it.
pub record PutsSaid (old new : Output) (text : List ℕ) : Type 0 where
  pub whole : new.is_whole ≡ true → old.is_whole ≡ true
  pub puts : new.is_whole ≡ true → (lines : List (List ℕ)) × Say lines text × (new.bytes.items ≡ old.bytes.items ++ text_of lines)
