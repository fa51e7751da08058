use Rattle.std.proofs.Common.{◌≡◌, ℕ, arith}
use Rattle.cpu_words.specs.declared.names.WordName.{WordName, TheVariants.{MountCount}}
use Rattle.transcripts.specs.Transcript.{word_text}
use Rattle.transcripts.proofs.Texts.{one_more, one_and_counts}
use Rattle.transcripts.proofs.session.Session.print_mount_words.Goals as goal

pub loop-cpu-preserved : goal.loop-cpu-preserved
loop-cpu-preserved g c =
    one_more (λ i. word_text (MountCount c.args.mount i) (g.D.Driver.word_of c.args.self.now.driver (MountCount c.args.mount i))) c.loop-cpu.cpu
    c.loop-cpu.invariant c.print_word-in-loop-cpu.ensures

pub returns : goal.returns
returns g c =
    let line = λ (name : WordName). word_text name (g.D.Driver.word_of c.args.self.now.driver name) in
    let counts = λ (i : ℕ). MountCount c.args.mount i in
    let all : c.loop-cpu.cpu ≡ c.args.self.now.config.processors = omega arith in
    one_and_counts line counts c.loop-cpu.cpu _ c.print_word.ensures c.loop-cpu.invariant all
