-- What a text says, or what is expected where it says nothing:
--
--   condition  all [ '|' condition ]
--   all        one [ '&' all ]
--   one        '!' one, '(' condition ')', or a fact
--   fact       TASK '.' CALL 'due', or 'waits' in its place, TASK '.' CALL '=' answer, TASK 'holds' held, 'sb' '=' access,
--              'mount' MOUNT '=' access, 'stage' '=' STAGE, 'holder' holder, 'node' NODE kind, or word '=' value
--   answer     'ok', 'skipped', or 'refused', behind which a reason may stand: a name, or 'Hook' CODE
--   held       'mount' MOUNT, 'level' LEVEL, or 'file' NODE
--   access     'ro', or 'rw'
--   holder     'kernel', or 'user'
--   kind       'free', 'file', 'dir', 'dirty', or 'removed'
--   word       'umount', 'holders', 'remount', 'removed', 'used', 'blockLEVEL', 'syncLEVEL', 'nodeNODE', 'kidsNODE',
--              'mountMOUNT' '.' 'flags', 'mountMOUNT' '.' 'cpuPROCESSOR', or 'levelLEVEL' '.' 'cpuPROCESSOR'
--   value      of each word a number, of a count also '-' and a number, and of umount 'free', or 'task' TASK,
--              of holders 'nobody', 'kernel', 'user', or 'kernel' ',' 'user', of blockLEVEL 'open', or 'closed',
--              of mountMOUNT.flags 'none', 'READONLY', 'HOLD', or 'READONLY' ',' 'HOLD'
--
-- So `!` binds most, and `&` more than `|`.
use Rattle.std.specs.Prelude.{Bool, Err, List, None, Ok, Option, Result, Some, [], bytes_eq, codes, drop, false, find, if◌then◌else◌, is_some, length}
use Rattle.std.specs.Prelude.{nat_lt, slice_index, suc, take, true, zero, ℕ, ◌+◌, ◌||◌, ◌∷◌, ◌≡◌}
use Rattle.access_model.specs.{Errors.name_of, declared.actions.{Gate.TheVariants.{Level as LevelGate, Mount as MountGate}, Holder.Holder}}
use Rattle.access_model.specs.declared.{actions.Holder.TheVariants.{Kernel, User}, errors.GateError.{GateError, TheVariants.{Again, Busy, Hook}}}
use Rattle.access_model.specs.declared.errors.GateError.TheVariants.{Invalid, IsDir, NoEntry, NoMemory, NoSpace, NotDir, Order, ReadOnly, TooMany}
use Rattle.cpu_words.specs.{Touches.wrap_sub, declared.names.WordName.TheVariants.{Block, Holders as HoldersWord, Kids, LevelCount, MountCount}}
use Rattle.cpu_words.specs.declared.names.WordName.TheVariants.{MountFlags, Node as NodeWord, Remount, Removed as RemovedWord, Sync, Umount, Used}
use Rattle.cpu_words.specs.declared.names.WordName.{WordName}
use Rattle.{gate_world.specs.declared.config.Config.Config, schedule_lines.specs.Numbers.{code_of, is_digits, number_of}}
use Rattle.race_conditions.specs.{Conditions.{And, Formula, Is, Not, Or}, Pieces.{end_of, is_next, piece_at, unexpected}}
use Rattle.race_conditions.specs.declared.conditions.{CallAnswer.{CallAnswer, TheVariants.{Done, Refused, RefusedFor, Skipped}}, Fact.Fact}
use Rattle.race_conditions.specs.declared.conditions.Fact.TheVariants.{Answered, Due, FrozenBy, HasOpen, Holds, Mount, Node, Stage, Superblock, Word}
use Rattle.race_conditions.specs.declared.conditions.NodeFact.{NodeFact, TheVariants.{Dir, Dirty, File, Free, Removed}}
use Rattle.race_conditions.specs.declared.faults.ConditionFault.{ConditionFault, TheVariants.{NoMemory as OutOfMemory, Unexpected as IsUnexpected}}
use Rattle.race_conditions.specs.declared.{faults.{Expected.Expected, Unexpected.Unexpected}, parsing.Rank.{Rank, TheVariants.{Joined, One}}}
use Rattle.race_conditions.specs.declared.parsing.Sign.{Sign, TheVariants.{And as AndSign, Or as OrSign}}
use Rattle.race_conditions.specs.declared.faults.Expected.TheVariants as expect

-- one after the other, up to the first fault
infixl 10 ◌>>=◌
abbrev pub ◌>>=◌ : {A B : Type 0} → Result A Unexpected → (A → Result B Unexpected) → Result B Unexpected
(Ok x) >>= f = f x
(Err fault) >>= f = Err fault

-- what was read, and where the text goes on
abbrev pub Read : Type 0 → Type 0
Read A = Result (A × ℕ) Unexpected

-- how a sign is written, the rank of the conditions that it stands between, and what two of them say with it
abbrev pub sign_text : Sign → List ℕ
sign_text OrSign = codes "|"
sign_text AndSign = codes "&"

abbrev pub part_of : Sign → Rank
part_of OrSign = Joined AndSign
part_of AndSign = One

abbrev pub both : Sign → Formula → Formula → Formula
both OrSign one other = Or one other
both AndSign one other = And one other

-- a number from here up to below there
abbrev pub between : ℕ → ℕ → Option ℕ → Option ℕ
between least limit None = None
between least limit (Some n) = if nat_lt n least then None else if nat_lt n limit then Some n else None

-- the number that a piece has behind this beginning
abbrev pub numbered : List ℕ → List ℕ → Option ℕ
numbered beginning piece = if bytes_eq (take (length beginning) piece) beginning then number_of (drop (length beginning) piece) else None

-- the reasons that have no code
abbrev pub reasons : List GateError
reasons = NoEntry ∷ Again ∷ NoMemory ∷ Busy ∷ NotDir ∷ IsDir ∷ Invalid ∷ TooMany ∷ NoSpace ∷ ReadOnly ∷ Order ∷ []

-- the reason of a name
unfoldable pub reason_of : List ℕ → Option GateError
reason_of word = find (λ reason. bytes_eq word (name_of reason)) reasons

module _ (text : List ℕ) where
  -- what the next piece stands for, if it stands for such
  abbrev pub stands_for : {A : Type 0} → Expected → ℕ → Option A → Read A
  stands_for expected at None = Err (unexpected text at expected)
  stands_for expected at (Some x) = Ok (x, end_of text at)

  unfoldable pub number_at : ℕ → ℕ → ℕ → Expected → Read ℕ
  number_at least limit at expected = stands_for expected at (between least limit (number_of (piece_at text at)))

  -- this beginning and, in the same piece, a number from here up to below there
  unfoldable pub index_at : List ℕ → ℕ → ℕ → ℕ → Expected → Read ℕ
  index_at beginning least limit at expected = stands_for expected at (between least limit (numbered beginning (piece_at text at)))

  -- this piece
  unfoldable pub after_piece : List ℕ → ℕ → Expected → Result ℕ Unexpected
  after_piece piece at expected = if is_next text at piece then Ok (end_of text at) else Err (unexpected text at expected)

  -- `ro` or `rw`
  unfoldable pub access_at : ℕ → Read Bool
  access_at at =
      if is_next text at (codes "ro") then Ok (true, end_of text at) else
      if is_next text at (codes "rw") then Ok (false, end_of text at) else Err (unexpected text at expect.Access)

  unfoldable pub holder_at : ℕ → Read Holder
  holder_at at =
      if is_next text at (codes "kernel") then Ok (Kernel, end_of text at) else
      if is_next text at (codes "user") then Ok (User, end_of text at) else Err (unexpected text at expect.Holder)

  unfoldable pub node_fact_at : ℕ → Read NodeFact
  node_fact_at at =
      if is_next text at (codes "free") then Ok (Free, end_of text at) else
      if is_next text at (codes "file") then Ok (File, end_of text at) else
      if is_next text at (codes "dir") then Ok (Dir, end_of text at) else
      if is_next text at (codes "dirty") then Ok (Dirty, end_of text at) else
      if is_next text at (codes "removed") then Ok (Removed, end_of text at) else Err (unexpected text at expect.NodeFact)

  -- a refusal for this reason, or for any
  abbrev pub refused_for : ℕ → Option GateError → CallAnswer × ℕ
  refused_for at None = (Refused, at)
  refused_for at (Some reason) = (RefusedFor reason, end_of text at)

  -- what stands behind `Hook`
  abbrev pub coded : ℕ → Option ℕ → Read CallAnswer
  coded at None = Err (unexpected text at expect.Code)
  coded at (Some code) = Ok (RefusedFor (Hook code), end_of text at)

  unfoldable pub refusal_at : ℕ → Read CallAnswer
  refusal_at at =
      if is_next text at (codes "Hook") then coded (end_of text at) (code_of (piece_at text (end_of text at)))
      else Ok (refused_for at (reason_of (piece_at text at)))

  unfoldable pub answer_at : ℕ → Read CallAnswer
  answer_at at =
      if is_next text at (codes "ok") then Ok (Done, end_of text at) else
      if is_next text at (codes "skipped") then Ok (Skipped, end_of text at) else
      if is_next text at (codes "refused") then refusal_at (end_of text at) else Err (unexpected text at expect.Answer)

  -- behind `TASK . CALL =`
  abbrev pub answered_at : ℕ → ℕ → ℕ → Read Fact
  answered_at t call at = do
    answer ← answer_at at
    Ok (Answered t call answer.0, answer.1)

  -- a call is said to be due, by that word or by an older one
  abbrev pub is_due : ℕ → Bool
  is_due at = is_next text at (codes "due") || is_next text at (codes "waits")

  -- behind `TASK . CALL`
  unfoldable pub call_fact_at : ℕ → ℕ → ℕ → Read Fact
  call_fact_at t call at =
      if is_due at then Ok (Due t call, end_of text at) else
      if is_next text at (codes "=") then answered_at t call (end_of text at) else Err (unexpected text at expect.EqualsOrDue)

  unfoldable pub stage_fact_at : ℕ → Read Fact
  stage_fact_at at = do
    equals ← after_piece (codes "=") at expect.Equals
    stage ← number_at 0 5 equals expect.Stage
    Ok (Stage stage.0, stage.1)

  unfoldable pub superblock_fact_at : ℕ → Read Fact
  superblock_fact_at at = do
    equals ← after_piece (codes "=") at expect.Equals
    access ← access_at equals
    Ok (Superblock access.0, access.1)

  unfoldable pub holder_fact_at : ℕ → Read Fact
  holder_fact_at at = do
    holder ← holder_at at
    Ok (FrozenBy holder.0, holder.1)

  -- the value of a word: a number
  unfoldable pub plain_at : ℕ → Read ℕ
  plain_at at = stands_for expect.Value at (number_of (piece_at text at))

  -- behind `-`: 0 less a number, as a word has it
  unfoldable pub negative_at : ℕ → Read ℕ
  negative_at at = do
    number ← plain_at at
    Ok (wrap_sub 0 number.0, number.1)

  unfoldable pub count_at : ℕ → Read ℕ
  count_at at = if is_next text at (codes "-") then negative_at (end_of text at) else plain_at at

  unfoldable pub block_at : ℕ → Read ℕ
  block_at at =
      if is_next text at (codes "open") then Ok (0, end_of text at) else
      if is_next text at (codes "closed") then Ok (1, end_of text at) else plain_at at

  -- behind the name of the first of two bits and `,`: the name of the second one
  unfoldable pub both_bits_at : List ℕ → ℕ → Read ℕ
  both_bits_at second at = do
    behind ← after_piece second at expect.Value
    Ok (3, behind)

  -- behind the name of the first of two bits: it alone, or both
  unfoldable pub first_bit_at : List ℕ → ℕ → Read ℕ
  first_bit_at second at = if is_next text at (codes ",") then both_bits_at second (end_of text at) else Ok (1, at)

  -- the names of two bits, or of none
  unfoldable pub bits_at : List ℕ → List ℕ → List ℕ → ℕ → Read ℕ
  bits_at none first second at =
      if is_next text at none then Ok (0, end_of text at) else
      if is_next text at first then first_bit_at second (end_of text at) else
      if is_next text at second then Ok (2, end_of text at) else plain_at at

  module _ (c : Config) where
    -- behind `task`: as a lock's word has its owner
    unfoldable pub owner_at : ℕ → Read ℕ
    owner_at at = do
      owner ← number_at 0 c.tasks at expect.Task
      Ok (owner.0 + 1, owner.1)

    unfoldable pub lock_at : ℕ → Read ℕ
    lock_at at =
        if is_next text at (codes "free") then Ok (0, end_of text at) else
        if is_next text at (codes "task") then owner_at (end_of text at) else plain_at at

    -- the value of this word
    unfoldable pub value_at : WordName → ℕ → Read ℕ
    value_at Umount at = lock_at at
    value_at HoldersWord at = bits_at (codes "nobody") (codes "kernel") (codes "user") at
    value_at (MountFlags m) at = bits_at (codes "none") (codes "READONLY") (codes "HOLD") at
    value_at (MountCount m p) at = count_at at
    value_at (Block i) at = block_at at
    value_at (LevelCount i p) at = count_at at
    value_at name at = plain_at at

    -- behind `mountMOUNT .`
    unfoldable pub mount_count_at : ℕ → ℕ → Read WordName
    mount_count_at m at = do
      cpu ← index_at (codes "cpu") 0 c.processors at expect.FlagsOrCount
      Ok (MountCount m cpu.0, cpu.1)

    unfoldable pub mount_field_at : ℕ → ℕ → Read WordName
    mount_field_at m at = if is_next text at (codes "flags") then Ok (MountFlags m, end_of text at) else mount_count_at m at

    unfoldable pub mount_word_at : ℕ → Read WordName
    mount_word_at at = do
      mount ← index_at (codes "mount") 0 c.mounts at expect.Mount
      dot ← after_piece (codes ".") mount.1 expect.Dot
      mount_field_at mount.0 dot

    unfoldable pub level_word_at : ℕ → Read WordName
    level_word_at at = do
      level ← index_at (codes "level") 1 4 at expect.Level
      dot ← after_piece (codes ".") level.1 expect.Dot
      cpu ← index_at (codes "cpu") 0 c.processors dot expect.Count
      Ok (LevelCount level.0 cpu.0, cpu.1)

    unfoldable pub block_word_at : ℕ → Read WordName
    block_word_at at = do
      level ← index_at (codes "block") 1 4 at expect.Level
      Ok (Block level.0, level.1)

    unfoldable pub sync_word_at : ℕ → Read WordName
    sync_word_at at = do
      level ← index_at (codes "sync") 1 4 at expect.Level
      Ok (Sync level.0, level.1)

    unfoldable pub node_word_at : ℕ → Read WordName
    node_word_at at = do
      node ← index_at (codes "node") 0 c.nodes at expect.Node
      Ok (NodeWord node.0, node.1)

    unfoldable pub kids_word_at : ℕ → Read WordName
    kids_word_at at = do
      node ← index_at (codes "kids") 0 c.nodes at expect.Node
      Ok (Kids node.0, node.1)

    -- this beginning and, in the same piece, some number
    abbrev pub is_numbered : List ℕ → ℕ → Bool
    is_numbered beginning at = is_some (numbered beginning (piece_at text at))

    -- a word of which there are several
    unfoldable pub numbered_word_at : ℕ → Read WordName
    numbered_word_at at =
        if is_numbered (codes "mount") at then mount_word_at at else
        if is_numbered (codes "level") at then level_word_at at else
        if is_numbered (codes "block") at then block_word_at at else
        if is_numbered (codes "sync") at then sync_word_at at else
        if is_numbered (codes "node") at then node_word_at at else
        if is_numbered (codes "kids") at then kids_word_at at else Err (unexpected text at expect.Fact)

    unfoldable pub word_at : ℕ → Read WordName
    word_at at =
        if is_next text at (codes "umount") then Ok (Umount, end_of text at) else
        if is_next text at (codes "holders") then Ok (HoldersWord, end_of text at) else
        if is_next text at (codes "remount") then Ok (Remount, end_of text at) else
        if is_next text at (codes "removed") then Ok (RemovedWord, end_of text at) else
        if is_next text at (codes "used") then Ok (Used, end_of text at) else numbered_word_at at

    unfoldable pub word_fact_at : ℕ → Read Fact
    word_fact_at at = do
      word ← word_at at
      equals ← after_piece (codes "=") word.1 expect.Equals
      value ← value_at word.0 equals
      Ok (Word word.0 value.0, value.1)

    unfoldable pub mount_fact_at : ℕ → Read Fact
    mount_fact_at at = do
      mount ← number_at 0 c.mounts at expect.Mount
      equals ← after_piece (codes "=") mount.1 expect.Equals
      access ← access_at equals
      Ok (Mount mount.0 access.0, access.1)

    unfoldable pub node_fact : ℕ → Read Fact
    node_fact at = do
      node ← number_at 0 c.nodes at expect.Node
      kind ← node_fact_at node.1
      Ok (Node node.0 kind.0, kind.1)

    -- behind `TASK holds`
    unfoldable pub held_mount_at : ℕ → ℕ → Read Fact
    held_mount_at t at = do
      mount ← number_at 0 c.mounts at expect.Mount
      Ok (Holds t (MountGate mount.0), mount.1)

    unfoldable pub held_level_at : ℕ → ℕ → Read Fact
    held_level_at t at = do
      level ← number_at 1 4 at expect.Level
      Ok (Holds t (LevelGate level.0), level.1)

    unfoldable pub held_file_at : ℕ → ℕ → Read Fact
    held_file_at t at = do
      file ← number_at 0 c.nodes at expect.Node
      Ok (HasOpen t file.0, file.1)

    unfoldable pub held_at : ℕ → ℕ → Read Fact
    held_at t at =
        if is_next text at (codes "mount") then held_mount_at t (end_of text at) else
        if is_next text at (codes "level") then held_level_at t (end_of text at) else
        if is_next text at (codes "file") then held_file_at t (end_of text at) else Err (unexpected text at expect.Held)

    -- so many calls each task has
    module _ (calls : List ℕ) where
      -- behind `TASK .`
      unfoldable pub numbered_call_at : ℕ → ℕ → Read Fact
      numbered_call_at t at = do
        call ← number_at 0 (slice_index calls t) at expect.Call
        call_fact_at t call.0 call.1

      -- behind `TASK`
      unfoldable pub behind_task : ℕ → ℕ → Read Fact
      behind_task t at =
          if is_next text at (codes ".") then numbered_call_at t (end_of text at) else
          if is_next text at (codes "holds") then held_at t (end_of text at) else Err (unexpected text at expect.DotOrHolds)

      unfoldable pub task_fact_at : ℕ → Read Fact
      task_fact_at at = do
        task ← number_at 0 c.tasks at expect.Task
        behind_task task.0 task.1

      unfoldable pub fact_at : ℕ → Read Fact
      fact_at at =
          if is_digits (piece_at text at) then task_fact_at at else
          if is_next text at (codes "sb") then superblock_fact_at (end_of text at) else
          if is_next text at (codes "mount") then mount_fact_at (end_of text at) else
          if is_next text at (codes "stage") then stage_fact_at (end_of text at) else
          if is_next text at (codes "holder") then holder_fact_at (end_of text at) else
          if is_next text at (codes "node") then node_fact (end_of text at) else word_fact_at at

      -- a condition of each rank, where one that is a part of it is read so
      module _ (part : Rank → ℕ → Read Formula) where
        -- behind a condition and a sign: another condition
        abbrev pub joined_at : Sign → Formula → ℕ → Read Formula
        joined_at sign first at = do
          other ← part (Joined sign) at
          Ok (both sign first other.0, other.1)

        -- behind a condition: this sign and another condition, or neither
        abbrev pub joined : Sign → Formula × ℕ → Read Formula
        joined sign first =
            if is_next text first.1 (sign_text sign) then joined_at sign first.0 (end_of text first.1) else Ok first

        abbrev pub denied : ℕ → Read Formula
        denied at = do
          condition ← part One at
          Ok (Not condition.0, condition.1)

        abbrev pub enclosed : ℕ → Read Formula
        enclosed at = do
          condition ← part (Joined OrSign) at
          closed ← after_piece (codes ")") condition.1 expect.Close
          Ok (condition.0, closed)

        abbrev pub stated : ℕ → Read Formula
        stated at = do
          fact ← fact_at at
          Ok (Is fact.0, fact.1)

        abbrev pub read_by : Rank → ℕ → Read Formula
        read_by (Joined sign) at = part (part_of sign) at >>= joined sign
        read_by One at =
            if is_next text at (codes "!") then denied (end_of text at) else
            if is_next text at (codes "(") then enclosed (end_of text at) else stated at

      -- a condition of this rank whose parts are nested less deep than so
      unfoldable pub condition_at : ℕ → Rank → ℕ → Read Formula
      condition_at zero rank at = Err (unexpected text at expect.Shallower)
      condition_at (suc depth) rank at = read_by (condition_at depth) rank at

      -- the whole text is a condition
      abbrev pub whole : Formula × ℕ → Result Formula Unexpected
      whole read = if bytes_eq (piece_at text read.1) [] then Ok read.0 else Err (unexpected text read.1 expect.End)

      unfoldable pub condition_in : Result Formula Unexpected
      condition_in = condition_at 1000 (Joined OrSign) 0 >>= whole

-- memory was refused, or this is the fault
abbrev pub IsFaultOf : {A : Type 0} → Result A Unexpected → ConditionFault → Type 0
IsFaultOf {A} read OutOfMemory = Unit {0}
IsFaultOf {A} read (IsUnexpected fault) = read ≡ Err fault
