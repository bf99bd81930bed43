-- The laws that join the calls of a caller into one run, with the law of `risc_model` that a run continues a run (`RunLaw`), and
-- that make the recordings of such a run true; and the numbers that a caller gets.
use Rattle.std.specs.Prelude.{ℕ, ◌≡◌, ◌+◌, ◌-◌, ◌^◌, ◌<◌, ◌≤◌, List, ◌++◌, length}
use Rattle.std.specs.List.{All}
use Rattle.risc_model.specs.declared.call.Call.{Call}
use Rattle.risc_model.specs.declared.event.Event.{Event}
use Rattle.risc_model.specs.Calls.{open_after}
use Rattle.risc_model.specs.Inclusive.{calls_between, inclusive, inclusive_between}
use Rattle.risc_model.specs.InputOrder.{count_at}
use Rattle.risc_model.specs.MachineState.{State}
use Rattle.risc_model.specs.Replay.{run_of, sent_of}
use Rattle.risc_model.specs.Visits.{departures, visits}
use Rattle.risc_pages.specs.declared.sizes.TheConstants.{MEMORY_WORDS}
use Rattle.risc_search.specs.declared.hit.Hit.{Hit}
use Rattle.oberon_format.specs.Defined.{IsTrueAt, claimed}
use Rattle.oberon_format.specs.Recording.{RecordingParts, last_of}
use Rattle.oberon_format.specs.Text.{TextWithDisk}
use Rattle.oberon_session.specs.Extended.{last_count}
use Rattle.oberon_check.specs.declared.versions.Versions.TheVariants.{WithDisk}
use Rattle.oberon_answers.specs.Record.{IsAcceptedIn}
use Rattle.galluspa.specs.declared.conditions.RawCondition.{RawCondition}
use Rattle.galluspa.specs.declared.raw.RawInput.{RawInput}
use Rattle.galluspa.specs.declared.raw.RawState.{RawState}
use Rattle.galluspa.specs.declared.refusal.TheConstants.{CLOSED, DONE, LATER, MORE, NO_ANSWER, NO_CHECKPOINT, NO_RECORDING, NO_ROOM, NOT_FOUND}
use Rattle.galluspa.specs.declared.moments.TheConstants.{NO_COUNT}
use Rattle.galluspa.specs.declared.refusal.TheConstants.{OUT_OF_MEMORY, OUT_OF_RANGE, PENDING_INPUTS}
use Rattle.galluspa.specs.declared.refusal.TheConstants.{TOO_MANY_CHECKPOINTS, TOO_MANY_INPUTS, TOO_MANY_PAGES, TOO_MUCH_OUTPUT}
use Rattle.galluspa.specs.Advance.{HasRun}
use Rattle.galluspa.specs.Extend.{IsBeginning, IsExtension}
use Rattle.galluspa.specs.Hits.{AreAllHits, HasFoundHits}
use Rattle.galluspa.specs.Raw.{state_of}

-- a run with the inputs of its own counts alone is the run with all inputs, and sends the same
abbrev pub FrameLaw : Type 0
FrameLaw =
    ((before due after : List Event) (from n : ℕ) (s : State)
    → ((i : ℕ) → i < length before → count_at before i < from) → ((i : ℕ) → i < length after → from + n ≤ count_at after i)
    → run_of due from n s ≡ run_of (before ++ (due ++ after)) from n s)
    × ((before due after : List Event) (from n : ℕ) (s : State)
    → ((i : ℕ) → i < length before → count_at before i < from) → ((i : ℕ) → i < length after → from + n ≤ count_at after i)
    → sent_of due from n s ≡ sent_of (before ++ (due ++ after)) from n s)

-- two runs, the second from the end of the first, are one run with the inputs of both, and send what both send; if the inputs of
-- the first come before its end, and those of the second at it or later
abbrev pub JoinLaw : Type 0
JoinLaw =
    (first second : List RawInput) (old mid new : RawState) (old_words mid_words new_words sent more : List ℕ)
    → All (λ i. i.count < mid.count) first → All (λ i. mid.count ≤ i.count) second
    → HasRun first mid.count old old_words mid mid_words sent
    → HasRun second new.count mid mid_words new new_words more
    → HasRun (first ++ second) new.count old old_words new new_words (sent ++ more)

-- the hits of two searches for all hits, the second from where the first ended, one after the other, are all hits of the run up to where
-- the second ended
abbrev pub HitsJoinLaw : Type 0
HitsJoinLaw =
    (inputs : List RawInput) (to further room more : ℕ) (old mid new : RawState) (old_words mid_words new_words : List ℕ)
    (raws : List RawCondition) (hits later : List Hit)
    → HasFoundHits inputs to old old_words raws room mid mid_words hits
    → HasFoundHits inputs further mid mid_words raws more new new_words later
    → AreAllHits inputs old old_words raws new.count (hits ++ later)

-- counts of two runs, the second of which goes on from the first, add up to those of the whole: of a word, and of procedures with those
-- that they call
pub record CountsLaw : Type 0 where
  pub visits_add : (p : ℕ) (es : List Event) (from a b : ℕ) (s : State)
      → visits p es from (a + b) s ≡ visits p es from a s + visits p es (from + a) b (run_of es from a s)
  pub departures_add : (p : ℕ) (es : List Event) (from a b : ℕ) (s : State)
      → departures p es from (a + b) s ≡ departures p es from a s + departures p es (from + a) b (run_of es from a s)
  pub inclusive_add : (group : ℕ → ℕ) (g limit : ℕ) (es : List Event) (from a b : ℕ) (s : State) (stack : List Call)
      → inclusive group g limit es from (a + b) s stack
      ≡ inclusive group g limit es from a s stack
      + inclusive group g limit es (from + a) b (run_of es from a s) (open_after limit es from a s stack)
  pub inclusive_between_add : (group : ℕ → ℕ) (g h limit : ℕ) (es : List Event) (from a b : ℕ) (s : State) (stack : List Call)
      → inclusive_between group g h limit es from (a + b) s stack
      ≡ inclusive_between group g h limit es from a s stack
      + inclusive_between group g h limit es (from + a) b (run_of es from a s) (open_after limit es from a s stack)
  pub calls_between_add : (group : ℕ → ℕ) (g h limit : ℕ) (es : List Event) (from a b : ℕ) (s : State) (stack : List Call)
      → calls_between group g h limit es from (a + b) s stack
      ≡ calls_between group g h limit es from a s stack
      + calls_between group g h limit es (from + a) b (run_of es from a s) (open_after limit es from a s stack)

-- ---- recordings that are made while a machine runs

-- the bytes are a recording, in any version, all of whose claims are true. Its last checkpoint claims this state
pub record IsTrueUpTo (text : List ℕ) (state : RawState) (words : List ℕ) : Type 0 where
  pub recording : RecordingParts
  pub is_text : TextWithDisk text recording
  pub truth : (k : ℕ) → k < length recording.checkpoints → IsTrueAt recording k
  pub count_is : last_count recording ≡ state.count
  pub claims : (claimed recording (last_of recording)).state ≡ state_of state words

-- the recording that begins with a state is true up to it. A recording that is true up to a state, and is extended by the result of
-- a run from that state, is true up to the state in which the run ends. And a check accepts each such recording
abbrev pub RecordLaw : Type 0
RecordLaw =
    ((state : RawState) (words text : List ℕ) → IsBeginning state words text → IsTrueUpTo text state words)
    × ((text : List ℕ) (inputs : List RawInput) (old new : RawState) (old_words new_words sent new_text : List ℕ)
    → IsTrueUpTo text old old_words → HasRun inputs new.count old old_words new new_words sent
    → IsExtension text inputs new new_words sent new_text → IsTrueUpTo new_text new new_words)
    × ((text : List ℕ) (state : RawState) (words : List ℕ) (live : IsTrueUpTo text state words) → IsAcceptedIn WithDisk live.recording text)

-- ---- the numbers that a caller in C gets

-- each number by its value, so that a mistyped one cannot change a contract unnoticed
pub record HasCodes : Type 0 where
  pub done : DONE ≡ 0
  pub out_of_range : OUT_OF_RANGE ≡ 1
  pub no_room : NO_ROOM ≡ 2
  pub out_of_memory : OUT_OF_MEMORY ≡ 3
  pub no_recording : NO_RECORDING ≡ 4
  pub no_checkpoint : NO_CHECKPOINT ≡ 5
  pub too_many_inputs : TOO_MANY_INPUTS ≡ 6
  pub too_many_checkpoints : TOO_MANY_CHECKPOINTS ≡ 7
  pub too_much_output : TOO_MUCH_OUTPUT ≡ 8
  pub too_many_pages : TOO_MANY_PAGES ≡ 9
  pub pending_inputs : PENDING_INPUTS ≡ 10
  pub not_found : NOT_FOUND ≡ 11
  pub more : MORE ≡ 12
  pub closed : CLOSED ≡ 13
  pub later : LATER ≡ 14
  pub no_count : NO_COUNT ≡ 2 ^ 64 - 1
  pub no_answer : NO_ANSWER ≡ 0
  pub words : MEMORY_WORDS ≡ 262144
