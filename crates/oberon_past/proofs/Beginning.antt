-- A past with its first keyframe alone, as Rust makes it.
use Rattle.std.proofs.Common.{◌≡◌, ℕ, ◌<◌, ◌≤◌, List, [], ◌∷◌, ap, arith, length, map, refl, subst, sym, ◌∙◌}
use Rattle.std.proofs.lemmas.List.{length-replicate}
use Rattle.std.proofs.lemmas.List.Elements.{All-replicate}
use Rattle.risc_pages.specs.Pages.{ArePages}
use Rattle.risc_pages.specs.Tables.{table_words, zero_numbers}
use Rattle.risc_model.specs.declared.event.Event.{Event}
use Rattle.risc_model.specs.MachineState.{CpuState, IsCpuState}
use Rattle.risc_devices.specs.DeviceState.{DeviceState}
use Rattle.oberon_format.specs.CheckpointParts.{CheckpointParts, checkpoint_parts}
use Rattle.oberon_format.specs.Recording.{parts_of}
use Rattle.oberon_format.specs.declared.checkpoint.Checkpoint.{Checkpoint}
use Rattle.oberon_session.proofs.Contents.{Leads, memory-stored}
use Rattle.oberon_session.specs.Extended.{blank_words}
use Rattle.oberon_session.specs.Laws.{IsTableOf}
use Rattle.oberon_session.specs.Stored.{Stored, store, stored_view}
use Rattle.oberon_session.specs.declared.storing.StoredPages.{StoredPages}
use Rattle.oberon_past.proofs.Keyframes.{alone-kept}
use Rattle.oberon_past.specs.Past.{IsOf, past_of}
use Rattle.oberon_past.specs.inner.Kept.{IsKept}

-- the table with the page of zeros in each slot
pub no-table : IsTableOf (record { pool = []; table = zero_numbers })
unfolding zero_numbers
no-table = record { count = length-replicate {A = ℕ} 1024 0; named = All-replicate (λ number. number ≤ 0) 1024 0 (omega arith) }

no-pages : ArePages []
no-pages k d lt = absurd (omega arith)

module _ (count : ℕ) (cpu : CpuState) (devices : DeviceState) (words : List ℕ) (inputs : List Event) (spacing end : ℕ)
    (whole : length words ≡ 262144) (spaced : 0 < spacing) (forward : count ≤ end) (range : IsCpuState cpu)
    (stored : StoredPages) (so : stored_view stored ≡ store blank_words words (record { pool = []; table = zero_numbers }))
    (pages : ArePages stored.pool) (made : Checkpoint) (sent : List ℕ)
    (made-is : checkpoint_parts made ≡ record { count = count; cpu = cpu; devices = devices; sent = sent; table = stored.table.numbers })
    (items : List Checkpoint) (push : items ≡ made ∷ []) where
  abbrev blank : Stored
  blank = record { pool = []; table = zero_numbers }

  led : Leads words blank (store blank_words words blank)
      × (table_words (store blank_words words blank).pool (store blank_words words blank).table ≡ words)
  led = memory-stored blank_words words blank no-table no-pages refl whole

  abbrev first : CheckpointParts
  first = record { count = count; cpu = cpu; devices = devices; sent = sent; table = stored.table.numbers }

  items-are : map checkpoint_parts items ≡ first ∷ []
  items-are = ap (map checkpoint_parts) push ∙ ap (λ (c : CheckpointParts). c ∷ []) made-is

  table-fits : IsTableOf (record { pool = stored.pool; table = stored.table.numbers })
  table-fits = subst IsTableOf (sym so) led.0.table

  pub begun-kept : IsKept (parts_of stored.pool inputs items) spacing end
  begun-kept =
      subst (λ (cs : List CheckpointParts). IsKept (record { pool = stored.pool; inputs = inputs; checkpoints = cs }) spacing end) (sym items-are)
      (alone-kept stored.pool inputs first spacing end pages spaced forward range table-fits)

  pub begun-of : IsOf (record { start = count; first = record { cpu = cpu; devices = devices; words = words }; inputs = inputs }) end
      (past_of (parts_of stored.pool inputs items) spacing end)
  begun-of =
      let content = ap (λ (s : Stored). table_words s.pool s.table) so ∙ led.1 in
      subst
      (λ (cs : List CheckpointParts).
      IsOf (record { start = count; first = record { cpu = cpu; devices = devices; words = words }; inputs = inputs }) end
      (past_of (record { pool = stored.pool; inputs = inputs; checkpoints = cs }) spacing end))
      (sym items-are)
      (record {
        run_is = ap (λ (w : List ℕ). record { start = count; first = record { cpu = cpu; devices = devices; words = w }; inputs = inputs }) content;
        end_is = refl;
      })
