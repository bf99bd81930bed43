-- The state at a count with the pages that changed, as it is written to a caller.
use Rattle.std.specs.Prelude.{ℕ, ◌≡◌, ◌⊎◌, ◌<◌, ◌≤◌, Option}
use Rattle.risc_model.specs.MachineState.{cpu_state}
use Rattle.risc_pages.specs.declared.page.Page.{Page}
use Rattle.oberon_past.specs.declared.moment.Moment.{Moment}
use Rattle.oberon_past.specs.Past.{IsInside, PastParts, first_asked, last_asked}
use Rattle.galluspa.specs.declared.claims.RawPage.{RawPage}
use Rattle.galluspa.specs.declared.moments.Unseen.{Unseen}
use Rattle.galluspa.specs.declared.moments.Unseen.TheVariants as unseen
use Rattle.galluspa.specs.declared.raw.RawState.{RawState}
use Rattle.galluspa.specs.Past.{NeedsPages}
use Rattle.galluspa.specs.Raw.{AreDevices, IsCpu, IsPadded, cpu_of, devices_of}

-- a page with its slot, as its words are written to a caller
abbrev pub raw_page : ℕ × Page → RawPage
raw_page changed = record { words = changed.1.words }

-- the state of a moment
pub record IsWrittenState (m : Moment) (state : RawState) : Type 0 where
  pub count_is : state.count ≡ m.count
  pub cpu_is : cpu_of state ≡ cpu_state m.cpu
  pub devices_are : devices_of state ≡ m.devices
  pub range : IsCpu state × AreDevices state × IsPadded state

-- why a caller that asks about the count n gets no state at the count `there`
abbrev pub IsUnseen : PastParts → ℕ → ℕ → Option ℕ → ℕ → ℕ → ℕ → Unseen → Type 0
IsUnseen p n there from budget room count unseen.Range = (budget ≡ 0) ⊎ (first_asked n from < p.run.start)
IsUnseen p n there from budget room count unseen.Later = (0 < budget) × (p.run.start ≤ first_asked n from) × (p.end < last_asked n from)
IsUnseen p n there from budget room count unseen.More = (0 < budget) × IsInside p.run p.end n from
IsUnseen p n there from budget room count unseen.Room = (0 < budget) × IsInside p.run p.end n from × NeedsPages p.run there from room count
IsUnseen p n there from budget room count unseen.Memory = (0 < budget) × IsInside p.run p.end n from
