-- What a past says of the recording that bytes are.
use Rattle.std.proofs.Common.{◌≡◌, ◌⊎◌, ◌<◌, ◌≤◌, ℕ, Err, IfErr, IfOk, IfSome, List, Ok, Option, Result, inr, subst, sym}
use Rattle.std.specs.Prelude.{OnOk}
use Rattle.oberon_format.proofs.One.{same_recording_with_disk}
use Rattle.oberon_format.specs.Recording.{RecordingParts}
use Rattle.oberon_format.specs.Text.{TextWithDisk}
use Rattle.oberon_past.specs.Check.{IsCheckable, IsTrueProgress}
use Rattle.oberon_past.specs.Past.{PastParts}
use Rattle.oberon_past.specs.declared.checked.CheckProgress.{CheckProgress}
use Rattle.galluspa.specs.PastCheck.{CanCheck, IsOfAnother, IsTrueIn, progress_of}
use Rattle.galluspa.specs.declared.past_check.RawProgress.{RawProgress}
use Rattle.galluspa.specs.declared.past_check.Reply.{Reply}
use Rattle.galluspa.specs.declared.past_check.Reply.TheVariants as reply
use Rattle.galluspa.specs.declared.past_check.Unchecked.{Unchecked}
use Rattle.galluspa.specs.declared.past_check.Unchecked.TheVariants as unchecked
use Rattle.galluspa.specs.inner.Checking.{IsReply, IsUnchecked}

module _ (text : List ℕ) (raw : RawProgress) (r : RecordingParts) (is : TextWithDisk text r) (from : Option CheckProgress) (so : from ≡ progress_of raw) where
  -- a progress that is true of the recording is true of any that the bytes are
  pub next-true : (x : Reply) → IsReply r from x → (next : CheckProgress) → x ≡ reply.More next
      → (0 < next.checkpoint) × (IsTrueIn text raw → (s : RecordingParts) → TextWithDisk text s → IsTrueProgress s next)
  next-true x said next same =
      let more : IsReply r from (reply.More next) = subst (λ (y : Reply). IsReply r from y) same said in (
        more.0.above,
        λ truth s text-s. subst (λ (q : RecordingParts). IsTrueProgress q next) (same_recording_with_disk text r s is text-s)
            (more.1 (subst (λ (o : Option CheckProgress). IfSome o (IsTrueProgress r)) (sym so) (truth r is))),
      )

  pub more-of : (x : Result Reply Unchecked) → IfOk x (IsReply r from)
      → IfOk x (λ (y : Reply). (next : CheckProgress) → y ≡ reply.More next
      → (0 < next.checkpoint) × (IsTrueIn text raw → (s : RecordingParts) → TextWithDisk text s → IsTrueProgress s next))
  more-of (Ok y) said = next-true y said
  more-of (Err why) said = tt

  pub checkable-of : (p : PastParts) (x : Result Reply Unchecked) → OnOk x (IsCheckable p r from) → OnOk x (CanCheck text raw p)
  checkable-of p (Ok y) can = record {
    recording = r;
    is_text = is;
    is = subst (λ (o : Option CheckProgress). IsCheckable p r o) so can;
  }
  checkable-of p (Err why) can = tt

  another : (p : PastParts) (budget : ℕ) (why : Unchecked) → IsUnchecked p r from why → why ≡ unchecked.Range → (budget ≡ 0) ⊎ IsOfAnother text raw p
  another p budget why refused same =
      let range : IsUnchecked p r from unchecked.Range = subst (λ (w : Unchecked). IsUnchecked p r from w) same refused in
      inr (record {
        recording = r;
        is_text = is;
        is = (range.0, subst (λ (o : Option CheckProgress). ¬ (IsCheckable p r o)) so range.1);
      })

  pub range-of : (p : PastParts) (budget : ℕ) (x : Result Reply Unchecked) → IfErr x (IsUnchecked p r from)
      → IfErr x (λ (why : Unchecked). why ≡ unchecked.Range → (budget ≡ 0) ⊎ IsOfAnother text raw p)
  range-of p budget (Ok y) refused = tt
  range-of p budget (Err why) refused = another p budget why refused
