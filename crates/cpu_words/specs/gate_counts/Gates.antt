-- The counts of any gate: a mount's count words and its flag HOLD, a freeze level's read counts and its word `block`.
use Rattle.std.specs.Prelude.{suc, zero, ℕ, ◌%◌, ◌*◌, ◌+◌, ◌<◌, ◌≡◌, ◌≤◌}
use Rattle.finite_sums.specs.Sums.{total}
use Rattle.cpu_words.specs.Sums.{lead}

-- what a task has to do with the flag that bars a gate
pub data Barring : Type 0 where
  -- the flag isn't its own
  Apart : Barring
  -- set the flag, and read this many words, with this sum
  Reading : (read : ℕ) (sum : ℕ) → Barring
  -- set the flag, and its sum was 0
  ReadZero : Barring
  -- set the flag, and says nothing of the counts
  Silent : Barring

-- 1 while the task has the flag set
abbrev pub bars : Barring → ℕ
bars Apart = 0
bars _ = 1

-- 1 where i is below n
abbrev pub below : ℕ → ℕ → ℕ
below i zero = 0
below zero (suc n) = 1
below (suc i) (suc n) = below i n

-- what a gate's predicate reads of one task
pub record GateView : Type 0 where
  -- accesses held
  pub held : ℕ
  -- what it added to each count word, and what it took away
  pub added : ℕ → ℕ
  pub taken : ℕ → ℕ
  -- how many of the gate's questions an access sought is past: the first admits it, and 0 is none sought or none answered
  pub questions : ℕ
  -- one more than the processor on which it added, where the access sought is not admitted; else 0. A sum that has read so many
  -- words has read what this task added
  pub sought_on : ℕ
  pub barring : Barring

-- accesses held, and one that is sought and past question i
abbrev pub past : ℕ → GateView → ℕ
past i v = v.held + below i v.questions

-- accesses held, and one that is sought and admitted
abbrev pub admitted : GateView → ℕ
admitted v = past 0 v

-- 1 where the task seeks an access and is not admitted, and added on word k or a later one
abbrev pub unread : ℕ → GateView → ℕ
unread k v = below k v.sought_on

-- what a task is counted for: accesses held, and sought
abbrev pub counted : GateView → ℕ
counted v = admitted v + unread 0 v

-- What a task that has the flag set says of the counts. A sum in progress: its lead is at least what is admitted, with what is sought
-- on the words to come, and at most a bound that is far below 2^64, since every word read can leave behind at most one for each task.
-- A sum that was 0: nothing is admitted.
abbrev pub BarringHolds : (processors : ℕ) (count : ℕ → ℕ) (all_admitted : ℕ) (all_unread : ℕ → ℕ) → Barring → Type 0
BarringHolds processors count all_admitted all_unread (Reading k sum) =
    (k < processors) ×
    (all_admitted + all_unread k ≤ lead processors count k sum) ×
    (lead processors count k sum ≤ 65600 + 64 * k + all_unread k)
BarringHolds processors count all_admitted all_unread ReadZero = all_admitted ≡ 0
BarringHolds processors count all_admitted all_unread _ = Unit {0}

-- Each count word is the wrapping sum of the net additions to it, and a task's net additions are what it is counted for.
pub record CountsHold (tasks processors : ℕ) (count : ℕ → ℕ) (at : ℕ → GateView) : Type 0 where
  pub fits : (p : ℕ) → p < processors → count p < 18446744073709551616
  pub words : (p : ℕ) → p < processors →
      (count p + total tasks (λ t. (at t).taken p)) % 18446744073709551616 ≡ total tasks (λ t. (at t).added p) % 18446744073709551616
  pub own : (t : ℕ) → t < tasks → total processors (at t).added ≡ total processors (at t).taken + counted (at t)

-- What holds at one gate between any two steps. `bit` is its flag, `unowned` is 1 where the flag is set and no task's own, and
-- `shut i` is the condition that nobody is past question i while it stands.
pub record GateHolds (tasks processors bit unowned : ℕ) (shut : ℕ → Type 0) (count : ℕ → ℕ) (at : ℕ → GateView) : Type 0 where
  pub counts : CountsHold tasks processors count at
  -- an access sought has room
  pub room : (t : ℕ) → t < tasks → admitted (at t) ≤ 1024
  -- the flag is set exactly where one task has it set, or where it is no task's own
  pub flag : total tasks (λ t. bars (at t).barring) + unowned ≡ bit
  pub sums : (t : ℕ) → t < tasks →
      BarringHolds processors count (total tasks (λ x. admitted (at x))) (λ k. total tasks (λ x. unread k (at x))) (at t).barring
  pub open_to : (i : ℕ) → shut i → total tasks (λ t. past i (at t)) ≡ 0
