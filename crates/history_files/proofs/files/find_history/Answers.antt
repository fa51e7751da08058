use Rattle.std.proofs.Common.{List, ap, arith, bytes_eq, codes, drop, length, length-drop, refl, sym, take, ℕ, ◌-◌, ◌<◌, ◌∙◌, ◌≡◌}
use Rattle.schedule_lines.specs.Lines.{front_of}
use Rattle.history_files.proofs.Found.{is_cut_off, is_further, is_nowhere, is_there, whole_rest}
use Rattle.history_files.proofs.files.find_history.Goals as goal

pub returns-in_default : goal.returns-in_default
returns-in_default c =
    let rest = whole_rest c.loop-done.at c.args.bytes.now in
    record {
      at = sym (c.loop-done.invariant.from ∙ is_cut_off 1048576 c.loop-done.done c.loop-done.at c.args.bytes.now c.front_of.result c.loop-done-test.true
          (ap front_of (sym rest) ∙ sym c.front_of.ensures.front) c.in_default.not-Line);
      before = tt;
      behind = tt;
      number = tt;
    }

pub returns-then-is_word-clause-at : goal.returns-then-is_word-clause-at
returns-then-is_word-clause-at c =
    let rest = whole_rest c.loop-done.at c.args.bytes.now in
    sym (c.loop-done.invariant.from ∙
    is_there 1048576 c.loop-done.done c.loop-done.at c.args.bytes.now c.in-Line.length c.loop-done-test.true
    (ap front_of (sym rest) ∙ sym c.in-Line.ensures.front)
    (ap (λ (r : List ℕ). bytes_eq (take c.in-Line.length r) (codes "history")) (sym rest) ∙ (sym c.is_word.ensures ∙ c.if-is_word.true)))

pub loop-done-preserved : goal.loop-done-preserved
loop-done-preserved c =
    let rest = whole_rest c.loop-done.at c.args.bytes.now in
    let inside : c.in-Line.length < length (take (length c.args.bytes.now - c.loop-done.at) (drop c.loop-done.at c.args.bytes.now)) =
    c.in-Line.ensures.inside c.in-Line.length refl in
    let same : length (take (length c.args.bytes.now - c.loop-done.at) (drop c.loop-done.at c.args.bytes.now)) ≡ length (drop c.loop-done.at c.args.bytes.now) =
    ap (λ (r : List ℕ). length r) rest in
    let less = length-drop c.loop-done.at c.args.bytes.now in
    record {
      from = c.loop-done.invariant.from ∙
          is_further 1048576 c.loop-done.done c.loop-done.at c.args.bytes.now c.in-Line.length c.loop-done-test.true
          (ap front_of (sym rest) ∙ sym c.in-Line.ensures.front)
          (ap (λ (r : List ℕ). bytes_eq (take c.in-Line.length r) (codes "history")) (sym rest) ∙ (sym c.is_word.ensures ∙ c.if-is_word.false));
      within = omega (arith, inside, same, less, c.loop-done.invariant.within);
    }

pub returns-clause-at : goal.returns-clause-at
returns-clause-at c =
    sym (c.loop-done.invariant.from ∙ is_nowhere 1048576 c.loop-done.done c.loop-done.at c.args.bytes.now c.loop-done-test.false)
