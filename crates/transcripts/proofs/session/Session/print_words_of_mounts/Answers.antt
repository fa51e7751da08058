use Rattle.transcripts.specs.Transcript.{mount_words, texts_of}
use Rattle.transcripts.proofs.Texts.{one_more}
use Rattle.transcripts.proofs.session.Session.print_words_of_mounts.Goals as goal

pub loop-mount-preserved : goal.loop-mount-preserved
loop-mount-preserved g c =
    one_more (λ m. texts_of (g.D.Driver.word_of c.args.self.now.driver) (mount_words c.args.self.now.config m)) c.loop-mount.mount
    c.loop-mount.invariant c.print_mount_words.ensures
