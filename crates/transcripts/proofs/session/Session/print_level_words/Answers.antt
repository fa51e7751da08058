use Rattle.std.proofs.Common.{◌≡◌, ℕ, arith}
use Rattle.cpu_words.specs.declared.names.WordName.{WordName, TheVariants.{LevelCount}}
use Rattle.schedule_lines.proofs.Printed.{prints_both}
use Rattle.transcripts.specs.Transcript.{word_text}
use Rattle.transcripts.proofs.Texts.{one_more, one_and_counts}
use Rattle.transcripts.proofs.session.Session.print_level_words.Goals as goal

pub loop-cpu-preserved : goal.loop-cpu-preserved
loop-cpu-preserved g c =
    one_more (λ i. word_text (LevelCount c.args.level i) (g.D.Driver.word_of c.args.self.now.driver (LevelCount c.args.level i))) c.loop-cpu.cpu
    c.loop-cpu.invariant c.print_word-in-loop-cpu.ensures

pub returns : goal.returns
returns g c =
    let line = λ (name : WordName). word_text name (g.D.Driver.word_of c.args.self.now.driver name) in
    let counts = λ (i : ℕ). LevelCount c.args.level i in
    let all : c.loop-cpu.cpu ≡ c.args.self.now.config.processors = omega arith in
    prints_both c.print_word.ensures (one_and_counts line counts c.loop-cpu.cpu _ c.print_word-2.ensures c.loop-cpu.invariant all)
