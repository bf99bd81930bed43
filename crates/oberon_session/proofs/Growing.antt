-- A recording with one more checkpoint, and one that begins.
use Rattle.std.proofs.Common.{◌≡◌, ◌≢◌, ℕ, ◌-◌, ◌^◌, ◌<◌, ◌≤◌, List, [], ◌∷◌, ◌++◌, ap, arith, get_or, length, length-append, map, refl, subst, sym, ◌∙◌}
use Rattle.std.proofs.lemmas.Grind.{common_steps}
use Rattle.std.proofs.lemmas.List.{get_or_push, length-map, length-replicate, length_push, map-append}
use Rattle.std.proofs.lemmas.List.Elements.{All-append, All-cons, All-nil, All-replicate}
use Rattle.std.specs.List.{All}
use Rattle.risc_core.specs.declared.branch.TheConstants.{COUNTER_END}
use Rattle.risc_devices.specs.DeviceState.{DeviceState, IsDeviceState}
use Rattle.risc_devices.specs.declared.disk.TheConstants.{UNANSWERED}
use Rattle.risc_model.specs.DiskInputs.{IsOfDisk}
use Rattle.risc_model.specs.MachineState.{CpuState, IsCpuState, cpu_state}
use Rattle.risc_model.specs.declared.event.Event.{Event}
use Rattle.risc_pages.specs.Pages.{ArePages}
use Rattle.risc_pages.specs.Tables.{IsNamed, table_words, zero_numbers}
use Rattle.recording_limits.specs.declared.limits.TheConstants.{MAX_PAGES}
use Rattle.oberon_format.proofs.CheckpointLemmas.{checkpoint_at-is}
use Rattle.oberon_format.specs.CheckpointParts.{CheckpointParts, checkpoint_parts, no_checkpoint}
use Rattle.oberon_format.specs.declared.checkpoint.Checkpoint.{Checkpoint}
use Rattle.oberon_format.specs.Defined.{Outcome, claim_of, claimed}
use Rattle.oberon_format.specs.Recording.{IsFit, IsLawfulWithDisk, IsUnanswered, RecordingParts, checkpoint_at, last_of, parts_of}
use Rattle.oberon_format.specs.Text.{IsPlain}
use Rattle.oberon_session.proofs.Contents.{Leads, memory-stored, table_words-grown}
use Rattle.oberon_session.proofs.StoredLaws.{stored-law}
use Rattle.oberon_session.proofs.LawfulMore.{lawful-more}
use Rattle.oberon_session.specs.Extended.{FitInputs, HasNoAnswer, HasRoom, IsBegun, IsExtendFault, IsExtended, outcome_of}
use Rattle.oberon_session.specs.declared.claim.Claim.{Claim}
use Rattle.oberon_session.specs.declared.extend_fault.ExtendFault.{ExtendFault}
use Rattle.oberon_session.specs.declared.extend_fault.ExtendFault.TheVariants as fault
use Rattle.oberon_session.specs.declared.storing.StoredPages.{StoredPages}
use Rattle.oberon_session.specs.Stored.{Stored, new_pages, stored_view}
use Rattle.oberon_session.specs.Laws.{IsTableOf}
use Rattle.oberon_session.specs.inner.Growing.{HasGrown, NeedsPages, claim_checkpoint, last_stored, stored_on}

module _ (stored : Stored) (words : List ℕ) (good : IsTableOf stored) (pages : ArePages stored.pool) (whole : length words ≡ 262144) where
  -- words that are stored are the content of the new table
  pub leads : Leads words stored (stored_on stored words) × (table_words (stored_on stored words).pool (stored_on stored words).table ≡ words)
  leads = memory-stored (table_words stored.pool stored.table) words stored good pages refl whole

  -- the pages that changed are added to the pool
  pub pool-stored : (stored_on stored words).pool ≡ stored.pool ++ new_pages (table_words stored.pool stored.table) words
  pool-stored = (stored-law (table_words stored.pool stored.table) words stored good pages refl whole).pool

module _ (r : RecordingParts) (lawful : IsLawfulWithDisk r) where
  pub last-fit : IsFit r.pool (checkpoint_at r (last_of r))
  last-fit = lawful.fit (last_of r) (omega (arith, lawful.some))

  pub last-table : IsTableOf (last_stored r)
  last-table = record { count = last-fit.table.count; named = last-fit.named }

  module _ (inputs : List Event) (count : ℕ) (cpu : CpuState) (devices : DeviceState) (words sent : List ℕ) (whole : length words ≡ 262144) where
    abbrev pub stored-next : Stored
    stored-next = stored_on (last_stored r) words

    abbrev pub next : CheckpointParts
    next = record { count = count; cpu = cpu; devices = devices; sent = sent; table = (stored_on (last_stored r) words).table }

    abbrev pub new : RecordingParts
    new = record { pool = (stored_on (last_stored r) words).pool; inputs = r.inputs ++ inputs; checkpoints = r.checkpoints ++ next ∷ [] }

    abbrev outcome : Outcome
    outcome = record { state = record { cpu = cpu; devices = devices; words = words }; sent = sent }

    at-before : (k : ℕ) → k < length r.checkpoints → checkpoint_at new k ≡ checkpoint_at r k
    at-before k lt = grind (arith, common_steps)

    at-last : checkpoint_at new (length r.checkpoints) ≡ next
    at-last = get_or_push r.checkpoints next no_checkpoint (length r.checkpoints) refl

    led : Leads words (last_stored r) stored-next × (table_words stored-next.pool stored-next.table ≡ words)
    led = leads (last_stored r) words last-table lawful.pool whole

    claims-before : (k : ℕ) → k < length r.checkpoints → claimed new k ≡ claimed r k
    claims-before k lt =
        ap (λ (c : CheckpointParts). claim_of stored-next.pool c) (at-before k lt)
        ∙ ap (λ (pool : List (List ℕ)). claim_of pool (checkpoint_at r k)) led.0.grown
        ∙ ap (λ (w : List ℕ). record { state = record { cpu = (checkpoint_at r k).cpu; devices = (checkpoint_at r k).devices; words = w }; sent = (checkpoint_at r k).sent })
        (table_words-grown r.pool led.0.extra (checkpoint_at r k).table (lawful.fit k lt).named)

    pub is-extended : IsExtended r inputs count outcome new
    is-extended = record {
      pool = pool-stored (last_stored r) words last-table lawful.pool whole;
      inputs_more = refl;
      more = length_push r.checkpoints next;
      counts = λ k lt. ap (λ (c : CheckpointParts). c.count) (at-before k lt);
      claims = claims-before;
      last_counts = ap (λ (c : CheckpointParts). c.count) at-last;
      last_claims =
          ap (λ (c : CheckpointParts). claim_of stored-next.pool c) at-last
          ∙ ap (λ (w : List ℕ). record { state = record { cpu = cpu; devices = devices; words = w }; sent = sent }) led.1;
    }

    -- a plain recording stays plain if no disk answers
    pub is-plain-more : IsPlain r → FitInputs r inputs outcome → HasNoAnswer inputs outcome → IsPlain new
    is-plain-more plain fit none = record {
      few = omega (arith, fit.plain plain none, length-append r.inputs inputs);
      unanswered = record {
        inputs = All-append (λ e. ¬ (IsOfDisk e)) r.inputs inputs plain.unanswered.inputs none.0;
        checkpoints = All-append IsUnanswered r.checkpoints (next ∷ []) plain.unanswered.checkpoints
            (All-cons IsUnanswered next [] none.1 (All-nil IsUnanswered));
      };
    }

    -- it is lawful if it exceeds no limit
    module _ (room : HasRoom r inputs count outcome) (few : length stored-next.pool ≤ MAX_PAGES) (pages : ArePages stored-next.pool)
        (cpus : IsCpuState cpu) (states : IsDeviceState devices) (bytes : All (λ byte. byte < 2 ^ 8) sent) where
      with-inputs : IsLawfulWithDisk (record r { inputs = r.inputs ++ inputs })
      with-inputs = record {
        pages = lawful.pages;
        pool = lawful.pool;
        events = omega (arith, room.inputs_fit.few, length-append r.inputs inputs);
        ordered = room.next.ordered;
        some = lawful.some;
        few = lawful.few;
        begins = lawful.begins;
        rises = lawful.rises;
        silent = lawful.silent;
        output = lawful.output;
        fit = lawful.fit;
      }

      next-fits : IsFit stored-next.pool next
      next-fits = record {
        bounded = room.next.bounded;
        cpu = cpus;
        devices = states;
        table = record { count = led.0.table.count; fit = λ j d lt. omega (arith, led.0.table.named j d lt, few) };
        named = led.0.table.named;
        bytes = bytes;
      }

      pub is-lawful-more : IsLawfulWithDisk new
      is-lawful-more =
          let grown = led.0.grown in
          let more = lawful-more (record r { inputs = r.inputs ++ inputs }) led.0.extra next with-inputs
          (subst (λ (p : List (List ℕ)). length p ≤ MAX_PAGES) grown few)
          (subst ArePages grown pages)
          room.checkpoint_fits room.next.later
          (subst (λ (p : List (List ℕ)). IsFit p next) grown next-fits)
          room.output_fits in
          subst (λ (p : List (List ℕ)). IsLawfulWithDisk (record { pool = p; inputs = r.inputs ++ inputs; checkpoints = r.checkpoints ++ next ∷ [] })) (sym grown) more

-- the same for the values of the code
module _ (r : RecordingParts) (lawful : IsLawfulWithDisk r) (inputs all : List Event) (claim : Claim) (whole : length claim.words.now ≡ 262144)
    (stored : StoredPages) (checkpoints : List Checkpoint) (grown : HasGrown r claim (stored_view stored) (map checkpoint_parts checkpoints)) (joined : all ≡ r.inputs ++ inputs) where
  abbrev grown-new : RecordingParts
  grown-new = new r lawful inputs claim.count (cpu_state claim.cpu) claim.devices claim.words.now claim.sent.now whole

  grown-is : parts_of stored.pool all checkpoints ≡ grown-new
  grown-is =
      let pushed = grown.pushed ∙ ap (λ (l : Stored). r.checkpoints ++ claim_checkpoint claim l.table ∷ []) grown.stored_is in
      λ i. record { pool = (grown.stored_is i).pool; inputs = joined i; checkpoints = pushed i }

  pub grown-extended : (made : RecordingParts) → made ≡ parts_of stored.pool all checkpoints → IsExtended r inputs claim.count (outcome_of claim) made
  grown-extended made is =
      subst (IsExtended r inputs claim.count (outcome_of claim)) (sym (is ∙ grown-is))
      (is-extended r lawful inputs claim.count (cpu_state claim.cpu) claim.devices claim.words.now claim.sent.now whole)

  pub grown-lawful : claim.cpu.pc < COUNTER_END → claim.cpu.stop ≤ 4 → HasRoom r inputs claim.count (outcome_of claim)
      → IsLawfulWithDisk (parts_of stored.pool all checkpoints)
  grown-lawful counter stop room =
      subst IsLawfulWithDisk (sym grown-is)
      (is-lawful-more r lawful inputs claim.count (cpu_state claim.cpu) claim.devices claim.words.now claim.sent.now whole room
      (subst (λ (l : Stored). length l.pool ≤ MAX_PAGES) grown.stored_is grown.few)
      (subst (λ (l : Stored). ArePages l.pool) grown.stored_is grown.pages)
      (record { count = claim.cpu.count; registers = claim.cpu.registers; auxiliary = claim.cpu.auxiliary; counter = counter; stops = stop })
      grown.devices grown.bytes)

  pub grown-plain : IsPlain r → FitInputs r inputs (outcome_of claim) → HasNoAnswer inputs (outcome_of claim)
      → (made : RecordingParts) → made ≡ parts_of stored.pool all checkpoints → IsPlain made
  grown-plain plain fit none made is =
      subst IsPlain (sym (is ∙ grown-is))
      (is-plain-more r lawful inputs claim.count (cpu_state claim.cpu) claim.devices claim.words.now claim.sent.now whole plain fit none)

not-pages : {P : Type 0} (f : ExtendFault) → (f ≡ fault.Memory → ⊥) → (f ≡ fault.Pages → ⊥) → (f ≢ fault.Memory → (f ≡ fault.Pages) × P) → ⊥
not-pages f memory pages needs = pages (needs memory).0

-- a fault of the pages is one of the recording
pub too-many-pages : (r : RecordingParts) → IsLawfulWithDisk r → (inputs : List Event) (claim : Claim) → length claim.words.now ≡ 262144
    → HasRoom r inputs claim.count (outcome_of claim) → (f : ExtendFault)
    → NeedsPages (last_stored r) claim.words.now f → IsExtendFault r inputs claim.count (outcome_of claim) f
too-many-pages r lawful inputs claim whole room fault.Pending needs = absurd (not-pages fault.Pending (λ e. let no : fault.Pending ≡ fault.Memory = e in cc) (λ e. let no : fault.Pending ≡ fault.Pages = e in cc) needs)
too-many-pages r lawful inputs claim whole room fault.Order needs = absurd (not-pages fault.Order (λ e. let no : fault.Order ≡ fault.Memory = e in cc) (λ e. let no : fault.Order ≡ fault.Pages = e in cc) needs)
too-many-pages r lawful inputs claim whole room fault.Inputs needs = absurd (not-pages fault.Inputs (λ e. let no : fault.Inputs ≡ fault.Memory = e in cc) (λ e. let no : fault.Inputs ≡ fault.Pages = e in cc) needs)
too-many-pages r lawful inputs claim whole room fault.Checkpoints needs = absurd (not-pages fault.Checkpoints (λ e. let no : fault.Checkpoints ≡ fault.Memory = e in cc) (λ e. let no : fault.Checkpoints ≡ fault.Pages = e in cc) needs)
too-many-pages r lawful inputs claim whole room fault.Output needs = absurd (not-pages fault.Output (λ e. let no : fault.Output ≡ fault.Memory = e in cc) (λ e. let no : fault.Output ≡ fault.Pages = e in cc) needs)
too-many-pages r lawful inputs claim whole room fault.Pages needs =
    let many = (needs (λ e. let no : fault.Pages ≡ fault.Memory = e in cc)).1 in
    let stored = pool-stored (last_stored r) claim.words.now (last-table r lawful) lawful.pool whole in
    let long = ap length stored in
    (room, omega (arith, many, long, length-append r.pool (new_pages (table_words r.pool (checkpoint_at r (last_of r)).table) claim.words.now)))
too-many-pages r lawful inputs claim whole room fault.Memory needs = room

-- ---- a recording that begins

abbrev pub no-pages : Stored
no-pages = record { pool = []; table = zero_numbers }

pub no-table : IsTableOf no-pages
unfolding zero_numbers
no-table = record {
  count = length-replicate {A = ℕ} 1024 0;
  named = All-replicate (λ number. number ≤ 0) 1024 0 (omega arith);
}

pub none-pages : ArePages []
none-pages = λ k d lt. absurd (omega arith)

module _ (cpu : CpuState) (devices : DeviceState) (words : List ℕ) (whole : length words ≡ 262144) where
  abbrev pub first-stored : Stored
  first-stored = stored_on no-pages words

  abbrev pub first : CheckpointParts
  first = record { count = 0; cpu = cpu; devices = devices; sent = []; table = (stored_on no-pages words).table }

  abbrev pub begun : RecordingParts
  begun = record { pool = (stored_on no-pages words).pool; inputs = []; checkpoints = first ∷ [] }

  first-led : Leads words no-pages first-stored × (table_words first-stored.pool first-stored.table ≡ words)
  first-led = leads no-pages words no-table none-pages whole

  pub is-begun : IsBegun (record { cpu = cpu; devices = devices; words = words }) begun
  is-begun = record {
    pool = pool-stored no-pages words no-table none-pages whole;
    inputs = refl;
    one = refl;
    begins = refl;
    claims = ap (λ (w : List ℕ). record { state = record { cpu = cpu; devices = devices; words = w }; sent = [] }) first-led.1;
  }

  pub lawful-begun : IsCpuState cpu → IsDeviceState devices → length first-stored.pool ≤ 1024 → ArePages first-stored.pool → IsLawfulWithDisk begun
  lawful-begun cpus states few pages = record {
    pages = omega arith;
    pool = pages;
    events = omega arith;
    ordered = λ k lt. absurd (omega arith);
    some = omega arith;
    few = omega arith;
    begins = refl;
    rises = λ k lt. absurd (omega arith);
    silent = refl;
    output = omega arith;
    fit = λ k lt.
        let this : 0 ≡ k = omega arith in
        subst (λ (j : ℕ). IsFit first-stored.pool (get_or (first ∷ []) j no_checkpoint)) this (record {
          bounded = omega arith;
          cpu = cpus;
          devices = states;
          table = record { count = first-led.0.table.count; fit = λ j d within. omega (arith, first-led.0.table.named j d within, few) };
          named = first-led.0.table.named;
          bytes = λ j d within. absurd (omega arith);
        });
  }

  pub plain-begun : devices.disk ≡ UNANSWERED → IsPlain begun
  plain-begun unanswered = record {
    few = omega arith;
    unanswered = record {
      inputs = All-nil (λ e. ¬ (IsOfDisk e));
      checkpoints = All-cons IsUnanswered first [] unanswered (All-nil IsUnanswered);
    };
  }

-- ---- the last checkpoint of parts

module _ (r : RecordingParts) (lawful : IsLawfulWithDisk r) (pool : List (List ℕ)) (inputs : List Event) (checkpoints : List Checkpoint)
    (is : parts_of pool inputs checkpoints ≡ r) (last : Checkpoint) (k : ℕ) (end : k ≡ length checkpoints - 1) (at : last ≡ get_or checkpoints k last) where
  own : IsLawfulWithDisk (parts_of pool inputs checkpoints)
  own = subst IsLawfulWithDisk (sym is) lawful

  many : length (map checkpoint_parts checkpoints) ≡ length checkpoints
  many = length-map checkpoints checkpoint_parts

  there : checkpoint_at (parts_of pool inputs checkpoints) k ≡ checkpoint_parts last
  there = checkpoint_at-is checkpoints k last (omega (arith, own.some, many, end)) at

  pub last-named : IsNamed pool last.table.numbers
  last-named = (subst (IsFit pool) there (own.fit k (omega (arith, own.some, many, end)))).named

  last-stored-is : record { pool = pool; table = last.table.numbers } ≡ last_stored r
  last-stored-is =
      let at-end : k ≡ last_of (parts_of pool inputs checkpoints) = omega (arith, many, end) in
      ap (λ (c : CheckpointParts). record { pool = pool; table = c.table }) (sym there)
      ∙ ap (λ (n : ℕ). record { pool = pool; table = (checkpoint_at (parts_of pool inputs checkpoints) n).table }) at-end ∙ ap last_stored is

  pub last-needs : (words : List ℕ) (f : ExtendFault) → NeedsPages (record { pool = pool; table = last.table.numbers }) words f → NeedsPages (last_stored r) words f
  last-needs words f = subst (λ (l : Stored). NeedsPages l words f) last-stored-is

  -- the recording with a claim
  pub has-grown : (claim : Claim) (stored : StoredPages) (items : List Checkpoint) (new : Checkpoint)
      → stored_view stored ≡ stored_on (record { pool = pool; table = last.table.numbers }) claim.words.now → length stored.pool ≤ MAX_PAGES → ArePages stored.pool
      → items ≡ checkpoints ++ new ∷ [] → checkpoint_parts new ≡ claim_checkpoint claim stored.table.numbers
      → IsDeviceState claim.devices → All (λ byte. byte < 2 ^ 8) claim.sent.now → HasGrown r claim (stored_view stored) (map checkpoint_parts items)
  has-grown claim stored items new stored-so few pages pushed new-so devices bytes = record {
    stored_is = stored-so ∙ ap (λ (l : Stored). stored_on l claim.words.now) last-stored-is;
    pushed =
        ap (map checkpoint_parts) pushed ∙ map-append checkpoint_parts checkpoints (new ∷ [])
        ∙ ap (λ (c : CheckpointParts). map checkpoint_parts checkpoints ++ c ∷ []) new-so
        ∙ ap (λ (x : RecordingParts). x.checkpoints ++ claim_checkpoint claim stored.table.numbers ∷ []) is;
    few = few;
    pages = pages;
    devices = devices;
    bytes = bytes;
  }
