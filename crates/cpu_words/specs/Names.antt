-- The words that a configuration has, and where each lies.
use Rattle.std.specs.Prelude.{ℕ, ◌*◌, ◌+◌, ◌-◌, ◌<◌, ◌≤◌}
use Rattle.cpu_words.specs.declared.names.WordName.TheVariants.{Block, Holders, Kids, LevelCount, MountCount, MountFlags, Node, Remount, Removed}
use Rattle.cpu_words.specs.declared.names.WordName.{TheVariants.{SbFlags, Section, Stage, Sync, Umount, Used}, WordName}
use Rattle.cpu_words.specs.declared.names.WordRow.{TheVariants.{CountOfLevel, CountOfMount, OfAll, OfLevel, OfMount, OfNode, OfTask}, WordRow}

-- how many of each there are
pub record Extents : Type 0 where
  pub tasks : ℕ
  pub processors : ℕ
  pub mounts : ℕ
  pub nodes : ℕ

-- the most that there may be of each, whatever the configuration
abbrev pub largest : Extents
largest = record { tasks = 64; processors = 64; mounts = 8; nodes = 64 }

-- The table of all words: what there is one such word of, and which of the words of that kind it is. A word more takes its row here, and is
-- counted below.
abbrev pub row : WordName → WordRow
row Umount = OfAll 0
row Stage = OfAll 1
row Holders = OfAll 2
row SbFlags = OfAll 3
row Remount = OfAll 4
row Removed = OfAll 5
row Used = OfAll 6
row (MountFlags m) = OfMount 0 m
row (MountCount m p) = CountOfMount 0 m p
row (Block i) = OfLevel 0 i
row (Sync i) = OfLevel 1 i
row (LevelCount i p) = CountOfLevel 0 i p
row (Section t) = OfTask 0 t
row (Node n) = OfNode 0 n
row (Kids n) = OfNode 1 n

-- there is that word
abbrev pub HasRow : Extents → WordRow → Type 0
HasRow e (OfAll k) = Unit {0}
HasRow e (OfMount k m) = m < e.mounts
HasRow e (CountOfMount k m p) = (m < e.mounts) × (p < e.processors)
HasRow e (OfLevel k i) = (1 ≤ i) × (i ≤ 3)
HasRow e (CountOfLevel k i p) = (1 ≤ i) × (i ≤ 3) × (p < e.processors)
HasRow e (OfTask k t) = t < e.tasks
HasRow e (OfNode k n) = n < e.nodes

abbrev pub IsWord : Extents → WordName → Type 0
IsWord e name = HasRow e (row name)

-- Places. Each kind of words begins where the kind before it ends, at the largest limits, so that a word's place is the same for every
-- configuration. Mounts, tasks and nodes count from 0; levels count from 1, so the base of their words is where a level 0 would lie.

-- the words of which there is one come first: so many
abbrev pub mount_base : ℕ
mount_base = 7

-- one word for each mount
abbrev pub level_base : ℕ
level_base = (mount_base + largest.mounts * 1) - 1

-- two for each level
abbrev pub section_base : ℕ
section_base = level_base + 3 * 2 + 1

-- one for each task
abbrev pub node_base : ℕ
node_base = section_base + largest.tasks * 1

-- the count words of one gate lie in a line, one for each processor
abbrev pub line_length : ℕ
line_length = largest.processors

-- after two for each node, the mounts' counts, one line a mount
abbrev pub mount_count_base : ℕ
mount_count_base = node_base + largest.nodes * 2

-- the counts of the levels, one line a level
abbrev pub level_count_base : ℕ
level_count_base = (mount_count_base + line_length * largest.mounts * 1) - line_length

-- how many places there are
abbrev pub words_in_all : ℕ
words_in_all = level_count_base + line_length * 3 * 1 + line_length

-- how far apart words lie in a table that gives each word cache lines of its own: 16 places of 8 bytes
abbrev pub stride : ℕ
stride = 16

-- where the word of a row lies
abbrev pub lies : WordRow → ℕ
lies (OfAll k) = k
lies (OfMount k m) = mount_base + largest.mounts * k + m
lies (CountOfMount k m p) = mount_count_base + line_length * largest.mounts * k + line_length * m + p
lies (OfLevel k i) = level_base + 3 * k + i
lies (CountOfLevel k i p) = level_count_base + line_length * 3 * k + line_length * i + p
lies (OfTask k t) = section_base + largest.tasks * k + t
lies (OfNode k n) = node_base + largest.nodes * k + n

-- the word's place among all words, at whatever limits
abbrev pub place : WordName → ℕ
place name = lies (row name)
