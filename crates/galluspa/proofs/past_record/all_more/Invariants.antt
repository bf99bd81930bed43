use Rattle.std.proofs.Common.{◌≡◌, ◌⊎◌, ◌<◌, ◌≤◌, ◌-◌, length}
use Rattle.oberon_past.specs.Draft.{IsDraftOf}
use Rattle.oberon_past.specs.Past.{IsLonger}
use Rattle.galluspa.specs.Drafts.{HasCheckpoints}
use Rattle.galluspa.proofs.past_record.all_more.Given as goal

abbrev pub invariant-loop-index : goal.invariant-loop-index
invariant-loop-index l = record {
  low : l.recorded ≤ l.index;
  high : l.index ≤ length l.counts;
  checkpoints : HasCheckpoints l.fn.draft.recording l.counts l.recorded l.index l.draft.recording;
  truth : IsDraftOf l.initial.past.run l.fn.draft → IsDraftOf l.initial.past.run l.draft;
  longer : IsLonger l.initial.past l.past;
  more : (l.left ≡ l.fn.budget.count) ⊎ (l.recorded < l.index);
}

abbrev pub decreases-loop-index : goal.decreases-loop-index
decreases-loop-index l = length l.counts - l.index
