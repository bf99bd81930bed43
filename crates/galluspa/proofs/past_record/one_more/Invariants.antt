use Rattle.std.proofs.Common.{◌≡◌, ◌-◌}
use Rattle.oberon_past.specs.Draft.{IsDraftOf}
use Rattle.oberon_past.specs.Past.{IsLonger}
use Rattle.galluspa.proofs.past_record.one_more.Given as goal

abbrev pub invariant-loop-draft : goal.invariant-loop-draft
invariant-loop-draft l = record {
  same : l.draft.recording ≡ l.fn.draft.recording;
  truth : IsDraftOf l.initial.past.run l.fn.draft → IsDraftOf l.initial.past.run l.draft;
  longer : IsLonger l.initial.past l.past;
}

abbrev pub decreases-loop-draft : goal.decreases-loop-draft
decreases-loop-draft l = l.count - l.draft.at
