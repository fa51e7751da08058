-- A replay that is under way, and one whose lines have ended: over whatever gates.
use Rattle.std.specs.Prelude.{◌≡◌, ℕ, ◌+◌, ◌-◌, List, [], ◌++◌, Option, Result, Ok, Err, IsSome, count_by}
use Rattle.std.specs.Io.KnownBytes.{Appends, Consumes, IsAtEnd}
use Rattle.schedule_lines.specs.{Lines.{is_newline}, declared.faults.Fault.{Fault, TheVariants.{WriteFailed}}}
use Rattle.transcripts.specs.Replayed.{IsFront, EndsBy}
use Rattle.transcripts.specs.Transcript.{ReplayState, transcript, transcript_from, then_prints}

-- After so many lines, at this play: they and what is pending were read, and whatever follows them, the transcript of all is what was
-- printed so far, and then that of what follows.
pub record ReplayUnderWay (input held : Option (List ℕ)) (done : ℕ) (pending : List ℕ) (left : Option (List ℕ)) (printed : List ℕ)
    (holds : Option (List ℕ)) (play : Option ReplayState) : Type 0 where
  pub whole : List ℕ
  pub written : List ℕ
  pub reads : Consumes input left (whole ++ pending)
  pub writes : Appends held holds written
  pub lines : count_by is_newline whole ≡ done
  pub prints : (more : List ℕ) →
      transcript (whole ++ more) ≡ then_prints (written ++ printed) (transcript_from (1048576 - done) done play more)

-- After so many lines a fault has ended the replay, and these printed bytes are still to be written: none after a write that failed.
pub record Stops (input held left : Option (List ℕ)) (printed : List ℕ) (holds : Option (List ℕ)) (done : ℕ) (fault : Fault)
    : Type 0 where
  pub taken : List ℕ
  pub written : List ℕ
  pub reads : Consumes input left taken
  pub writes : Appends held holds written
  pub within : IsFront (written ++ printed) (transcript taken).printed
  pub ends : EndsBy input taken (written ++ printed) (done + 1) fault
  pub spent : fault ≡ WriteFailed → printed ≡ []

-- After so many lines all was read and done, there was a configuration, and these printed bytes are still to be written.
pub record AllDone (input held left : Option (List ℕ)) (printed : List ℕ) (holds : Option (List ℕ)) (done : ℕ) : Type 0 where
  pub play : Option ReplayState
  pub way : ReplayUnderWay input held done [] left printed holds play
  pub at_end : IsAtEnd left
  pub begun : IsSome play

-- how the lines have ended, after so many: well, or by a fault
abbrev pub LinesEnd : Option (List ℕ) → Option (List ℕ) → Option (List ℕ) → List ℕ → Option (List ℕ) → ℕ → Result (Unit {0}) Fault → Type 0
LinesEnd input held left printed holds done (Ok all) = AllDone input held left printed holds done
LinesEnd input held left printed holds done (Err fault) = Stops input held left printed holds done fault
