-- Records of a run, one after another.
use Rattle.std.proofs.Common.{◌≡◌, ◌∙◌, ◌+◌, ◌<◌, ℕ, List, [], ◌∷◌, ap, arith, get_or, length, refl, set, slice_index_or, subst, sym}
use Rattle.std.proofs.Math.ListN.{get_or-eq_default}
use Rattle.std.proofs.lemmas.List.{get_or_default}
use Rattle.risc_model.specs.declared.event.Event.{Event}
use Rattle.risc_model.specs.MachineState.{State}
use Rattle.risc_search.specs.declared.effect.Effect.{Effect}
use Rattle.risc_search.specs.Effects.{IsEffect}
use Rattle.risc_search.proofs.EffectLemmas.{effect-count}
use Rattle.oberon_past.specs.declared.traced.Record.{Record}
use Rattle.oberon_past.specs.declared.traced.Records.{Records}
use Rattle.oberon_past.specs.Run.{Run, state_at}
use Rattle.oberon_past.specs.Trace.{AreRecords}
use Rattle.oberon_past.specs.Trace.{IsRecord as IsPastRecord}
use Rattle.galluspa.specs.Raw.{AreDevices, IsCpu, IsPadded, cpu_of, devices_of}
use Rattle.galluspa.specs.Ranges.{AreRecordsOf}
use Rattle.galluspa.specs.Records.{AreFirstRecorded, AreRecorded, IsPlain, IsRecord, effect_of}
use Rattle.galluspa.specs.declared.raw.RawState.{RawState}
use Rattle.galluspa.specs.declared.records.RawRecord.{RawRecord}
use Rattle.galluspa.specs.inner.Recording.{AreRaw, AreWritable, IsRaw}
use Rattle.galluspa.proofs.ClaimLemmas.{filled-more}

-- a record of a state and an effect
pub record-is : (r : RawRecord) (state : RawState) (effect : Effect) (es : List Event) (n : ℕ) (s : State) → r.state ≡ state → effect_of r ≡ effect → IsPlain r
    → state.count ≡ n → cpu_of state ≡ s.cpu → devices_of state ≡ s.devices → IsCpu state → AreDevices state → IsPadded state
    → IsEffect effect es n s → IsRecord r es n s
record-is r state effect es n s same did plain count cpu devices cpu_range devices_range padded is =
    let Q : Effect → Type 0 = λ (e : Effect). IsEffect e es n s in
    record {
      count_is = ap (λ (x : RawState). x.count) same ∙ count;
      cpu_is = ap cpu_of same ∙ cpu;
      devices_are = ap devices_of same ∙ devices;
      cpu = subst IsCpu (sym same) cpu_range;
      devices = subst AreDevices (sym same) devices_range;
      padded = subst IsPadded (sym same) padded;
      effect = subst Q (sym did) is;
      plain = plain;
    }

-- all records are the first ones
pub all-first : (es : List Event) (from : ℕ) (s : State) (old new : List RawRecord) → length new ≡ length old → AreRecorded (length new) new es from s → AreFirstRecorded es from s old new
all-first es from s old new long each = record {
  count = length new;
  each = each;
  rest = λ i d h. get_or-eq_default new d h ∙ sym (get_or-eq_default old d (let same : length new ≡ length old = long in omega arith));
}

-- ---- records of a past

-- a record of a past, as it is written to a caller, is the record of its count
raw-is : (r : Record) (raw : RawRecord) (es : List Event) (n : ℕ) (s : State) → IsPastRecord r es n s → IsRaw r raw → IsRecord raw es n s
raw-is r raw es n s is same =
    record-is raw raw.state r.effect es n s refl same.effect_is same.plain (same.count_is ∙ is.count_is) (same.cpu_is ∙ is.cpu_is)
    (same.devices_are ∙ is.devices_are) same.cpu same.devices same.padded is.effect

-- one record more is written
pub raw-more : (records : List Record) (out : List RawRecord) (k : ℕ) (raw : RawRecord) (r : Record) → k < length records → k < length out
    → r ≡ get_or records k r → IsRaw r raw → AreRaw k records out → AreRaw (k + 1) records (set out k raw)
raw-more records out k raw r inside room at is before = λ i e f lt.
    filled-more (λ (j : ℕ) (x : RawRecord). (d : Record) → IsRaw (slice_index_or records j d) x) out k raw room
    (λ d. subst (λ (it : Record). IsRaw it raw) (at ∙ get_or_default records k r d inside) is) (λ j x lt d. before j d x lt) i f lt e

pub writable : (run : Run) (from : ℕ) (records : Records) → AreRecords run from records → AreWritable records.list.items
writable run from records are = λ i d inside.
    let r : Record = slice_index_or records.list.items i d in
    let is = are.each i d inside in
    record { range = is.range; bytes = effect-count r.effect run.inputs (from + i) (state_at run (from + i)) is.effect }

first-of : (records : List Record) → 0 < length records → Record
first-of [] some = absurd (omega (arith, some))
first-of (r ∷ rest) some = r

-- records of a past that are written to a caller
pub records-of : (run : Run) (from : ℕ) (records : Records) (out : List RawRecord) (count : ℕ) → count ≡ length records.list.items
    → AreRecords run from records → AreRaw count records.list.items out → AreRecordsOf count out run from
records-of run from records out count all are raw = λ i d inside.
    let none : Record = first-of records.list.items (omega (arith, inside, all)) in
    raw-is (slice_index_or records.list.items i none) (slice_index_or out i d) run.inputs (from + i) (state_at run (from + i))
    (are.each i none (omega (arith, inside, all))) (raw i none d inside)
