-- All words at one moment.
use Rattle.std.specs.Prelude.{ℕ}
use Rattle.finite_sums.specs.Sums.{update}
use Rattle.cpu_words.specs.declared.names.WordName.TheVariants.{Block, Holders, Kids, LevelCount, MountCount, MountFlags, Node, Remount, Removed}
use Rattle.cpu_words.specs.declared.names.WordName.{TheVariants.{SbFlags, Section, Stage, Sync, Umount, Used}, WordName}

-- the values of all words, by what they belong to; of a number that there is not, any value
pub record Words : Type 0 where
  pub umount : ℕ
  pub stage : ℕ
  pub holders : ℕ
  pub sb : ℕ
  pub remount : ℕ
  pub removed : ℕ
  -- of a mount; of a mount and a processor
  pub flags : ℕ → ℕ
  pub count : ℕ → ℕ → ℕ
  -- of a level; of a level and a processor
  pub block : ℕ → ℕ
  pub sync : ℕ → ℕ
  pub level : ℕ → ℕ → ℕ
  -- of a task
  pub section : ℕ → ℕ
  pub used : ℕ
  -- of a node
  pub node : ℕ → ℕ
  pub kids : ℕ → ℕ

-- the value of a word
abbrev pub read : Words → WordName → ℕ
read w Umount = w.umount
read w Stage = w.stage
read w Holders = w.holders
read w SbFlags = w.sb
read w Remount = w.remount
read w Removed = w.removed
read w (MountFlags m) = w.flags m
read w (MountCount m p) = w.count m p
read w (Block i) = w.block i
read w (Sync i) = w.sync i
read w (LevelCount i p) = w.level i p
read w (Section t) = w.section t
read w Used = w.used
read w (Node n) = w.node n
read w (Kids n) = w.kids n

-- the words after a write of one of them
abbrev pub put : Words → WordName → ℕ → Words
put w Umount v = record w { umount = v }
put w Stage v = record w { stage = v }
put w Holders v = record w { holders = v }
put w SbFlags v = record w { sb = v }
put w Remount v = record w { remount = v }
put w Removed v = record w { removed = v }
put w (MountFlags m) v = record w { flags = update w.flags m v }
put w (MountCount m p) v = record w { count = update w.count m (update (w.count m) p v) }
put w (Block i) v = record w { block = update w.block i v }
put w (Sync i) v = record w { sync = update w.sync i v }
put w (LevelCount i p) v = record w { level = update w.level i (update (w.level i) p v) }
put w (Section t) v = record w { section = update w.section t v }
put w Used v = record w { used = v }
put w (Node n) v = record w { node = update w.node n v }
put w (Kids n) v = record w { kids = update w.kids n v }

-- all words are 0
abbrev pub no_words : Words
no_words = record {
  umount = 0;
  stage = 0;
  holders = 0;
  sb = 0;
  remount = 0;
  removed = 0;
  flags = λ m. 0;
  count = λ m p. 0;
  block = λ i. 0;
  sync = λ i. 0;
  level = λ i p. 0;
  section = λ t. 0;
  used = 0;
  node = λ n. 0;
  kids = λ n. 0;
}

-- but for the root's, a directory
abbrev pub opening_words : Words
opening_words = put no_words (Node 0) 2
