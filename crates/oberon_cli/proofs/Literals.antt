-- What literal arguments ask for.
use Rattle.std.proofs.Common.{◌≡◌, ◌∙◌, [], ◌∷◌, Option, Some, None, refl, sym, codes, inl}
use Rattle.clap.proofs.OnLiterals.{clap_on_literals}
use Rattle.oberon_check.specs.declared.versions.Versions.TheVariants.{WithoutDisk, WithDisk}
use Rattle.oberon_cli.specs.Asked.{IsHelp, request_in, faults, found}
use Rattle.oberon_cli.specs.declared.arguments.Refusal.{Refusal}
use Rattle.oberon_cli.specs.declared.arguments.Refusal.TheVariants.{Help, Words, Memory}
use Rattle.oberon_cli.specs.declared.arguments.Request.{Request}
use Rattle.oberon_cli.specs.declared.arguments.Request.TheVariants.{Check, Migrate, Record, Screen, Shard}
use Rattle.oberon_cli.specs.inner.Requests.{RefusedBy}

pub check : request_in (codes "check" ∷ []) ≡ Some (Check WithoutDisk 2 1)
unfolding clap_on_literals faults found
check = refl

pub no_arguments : request_in [] ≡ Some (Check WithoutDisk 2 1)
no_arguments = check

check_faultless : faults (codes "check" ∷ []) ≡ []
unfolding clap_on_literals faults
check_faultless = refl

some-none : (request : Request) → Some request ≡ None → ⊥
some-none request e = absurd cc

-- why `check` alone may be refused, so may no arguments: only for lack of memory
pub check_refused : (refusal : Refusal) → RefusedBy (codes "check" ∷ []) refusal → RefusedBy [] refusal
check_refused (Help error) is = absurd (rw check_faultless at is)
check_refused Words is = absurd (some-none (Check WithoutDisk 2 1) (sym check ∙ is.0))
check_refused Memory is = tt

pub check_workers : request_in (codes "check" ∷ codes "--workers" ∷ codes "3" ∷ []) ≡ Some (Check WithoutDisk 3 1)
unfolding clap_on_literals faults found
check_workers = refl

pub check_both : request_in (codes "check" ∷ codes "--cut=4096" ∷ codes "--workers=64" ∷ []) ≡ Some (Check WithoutDisk 64 4096)
unfolding clap_on_literals faults found
check_both = refl

pub one_shard : request_in (codes "check" ∷ codes "--shard" ∷ codes "2/3" ∷ []) ≡ Some (Shard WithoutDisk 2 3)
unfolding clap_on_literals faults found
one_shard = refl

pub shard_past_the_last : request_in (codes "check" ∷ codes "--shard=4/3" ∷ []) ≡ None
unfolding clap_on_literals faults found
shard_past_the_last = refl

pub recorder : request_in (codes "record" ∷ []) ≡ Some (Record WithoutDisk)
unfolding clap_on_literals faults found
recorder = refl

pub record_surplus : request_in (codes "record" ∷ codes "again" ∷ []) ≡ None
unfolding clap_on_literals faults found
record_surplus = refl

pub screen : request_in (codes "screen" ∷ codes "--at" ∷ codes "0" ∷ []) ≡ Some (Screen WithoutDisk 0)
unfolding clap_on_literals faults found
screen = refl

pub migrate : request_in (codes "migrate" ∷ []) ≡ Some (Migrate WithoutDisk)
unfolding clap_on_literals faults found
migrate = refl

pub migrate_at : request_in (codes "migrate" ∷ codes "--at" ∷ codes "1" ∷ []) ≡ None
unfolding clap_on_literals faults found
migrate_at = refl

pub check_disk : request_in (codes "check" ∷ codes "--disk" ∷ []) ≡ Some (Check WithDisk 2 1)
unfolding clap_on_literals faults found
check_disk = refl

pub one_shard_disk : request_in (codes "check" ∷ codes "--disk" ∷ codes "--shard" ∷ codes "2/3" ∷ []) ≡ Some (Shard WithDisk 2 3)
unfolding clap_on_literals faults found
one_shard_disk = refl

pub recorder_disk : request_in (codes "record" ∷ codes "--disk" ∷ []) ≡ Some (Record WithDisk)
unfolding clap_on_literals faults found
recorder_disk = refl

pub screen_disk : request_in (codes "screen" ∷ codes "--at=0" ∷ codes "--disk" ∷ []) ≡ Some (Screen WithDisk 0)
unfolding clap_on_literals faults found
screen_disk = refl

pub migrate_disk : request_in (codes "migrate" ∷ codes "--disk" ∷ []) ≡ Some (Migrate WithDisk)
unfolding clap_on_literals faults found
migrate_disk = refl

pub combine_disk : request_in (codes "combine" ∷ codes "--disk" ∷ []) ≡ None
unfolding clap_on_literals faults found
combine_disk = refl

pub too_many_workers : request_in (codes "check" ∷ codes "--workers" ∷ codes "65" ∷ []) ≡ None
unfolding clap_on_literals faults found
too_many_workers = refl

pub screen_alone : request_in (codes "screen" ∷ []) ≡ None
unfolding clap_on_literals faults found
screen_alone = refl

pub help : IsHelp (codes "--help" ∷ [])
unfolding clap_on_literals faults found
help = inl refl

pub check_help : IsHelp (codes "check" ∷ codes "-h" ∷ [])
unfolding clap_on_literals faults found
check_help = inl refl
