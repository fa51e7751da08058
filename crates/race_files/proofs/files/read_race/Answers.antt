use Rattle.std.proofs.Common.{◌≡◌, ◌⊎◌, ◌∙◌, ap, arith, subst, ℕ, ◌+◌, length}
use Rattle.race_files.specs.{FirstFaults.{IsFirstFault, IsMemory}, Left.{Left, left_in}}
use Rattle.race_files.proofs.files.read_race.Goals as goal

-- where none was taken, those that are left are all
all_lines : (done : ℕ) (left all : Left) → done ≡ 0 → left ≡ all → done + length left.lines ≡ length all.lines
all_lines done left all none same =
    let n : length left.lines ≡ length all.lines = ap (λ (x : Left). length x.lines) same in
    omega (arith, none, n)

pub returns-in-Err-clause-fault : goal.returns-in-Err-clause-fault
returns-in-Err-clause-fault c = record {
  fault = c.in-Err.fault;
  left = left_in c.read_lines.new.lines;
  first = subst (λ (all : Left). IsFirstFault all (left_in c.read_lines.new.lines) c.in-Err.fault ⊎ IsMemory c.in-Err.fault)
      c.new-lines.ensures.lines c.in-Err.ensures.fault;
  done = _;
  before = c.read_lines.ensures.count ∙ all_lines _ _ _ c.new-lines.ensures.done c.new-lines.ensures.lines;
  at = c.fault.ensures;
}
