-- A snapshot that was done has taken a tree, sound and clean, and that is the one that its task shows.
use Rattle.vfs_gates.proofs.Prelude.{None, Option, Some, TreeWords, ap, option_map, refl, subst, sym, true, ◌∙◌, ◌≡◌}
use Rattle.std.proofs.Common.{Bor}
use Rattle.gate_world.specs.declared.views.Snapshot.{Snapshot}
use Rattle.gated_tree.specs.{Trees.{LoadedClean, LoadedSound, words_of}, declared.trees.Tree.Tree}
use Rattle.vfs_gates.proofs.Taking.{HasWhole, took_whole}
use Rattle.vfs_gates.proofs.task.Task.snapshot_tree.Goals as goal

pub unreachable-requires : goal.unreachable-requires
unreachable-requires g c =
    let whole : HasWhole c.snapshot.new.self = took_whole true c.args.self.now c.snapshot.new.self c.tree.ensures.there c.in_ok-snapshot.ensures in
    let seen : ◌≡◌ {A = Option TreeWords} None (Some whole.0.loaded) =
    sym (ap (option_map (λ (t : Bor Tree). words_of t.now)) c.in-None.is) ∙
    (c.tree.ensures.last ∙ ap (option_map (λ (s : Snapshot). s.loaded)) whole.1) in absurd (let f : ⊥ = cc in f)

pub returns : goal.returns
returns g c =
    let whole : HasWhole c.snapshot.new.self = took_whole true c.args.self.now c.snapshot.new.self c.tree.ensures.there c.in_ok-snapshot.ensures in
    let seen : ◌≡◌ {A = Option TreeWords} (Some (words_of c.in-Some.tree.now)) (Some whole.0.loaded) =
    sym (ap (option_map (λ (t : Bor Tree). words_of t.now)) c.in-Some.is) ∙
    (c.tree.ensures.last ∙ ap (option_map (λ (s : Snapshot). s.loaded)) whole.1) in
    let same : words_of c.in-Some.tree.now ≡ whole.0.loaded = cc in (
      (refl, (λ _. tt), (c.in_ok-snapshot.ensures, (whole.0, whole.1, same))),
      record { taken = tt; whole = subst (λ w. LoadedSound w × LoadedClean w) (sym same) (whole.2, whole.3) },
    )
