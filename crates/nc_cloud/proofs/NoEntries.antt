-- A round without entries need not be made.
use Rattle.std.proofs.Common.{◌≡◌, List, [], Ok, refl, arith, subst}
use Rattle.nc_cloud.specs.declared.fleet.Fleet.{Ghosts as FleetGhosts}
use Rattle.nc_cloud.specs.declared.fleet.Erase.{Erase}
use Rattle.nc_cloud.specs.declared.fleet.Job.{Job}
use Rattle.nc_cloud.specs.Fleet.{writes, erasures}
use Rattle.nc_cloud.specs.Images.{Image}
use Rattle.nc_cloud.specs.Deciding.{Erased, Wrote}
use Rattle.nc_cloud.proofs.Images.{image_none}
use Rattle.nc_cloud.proofs.Time.{goes_none, keeps_none}

pub wrote_none : {A : Type 0} (F : FleetGhosts A) (s : A) → Wrote F [] [] s s (Ok tt)
wrote_none F s = record {
  entries = refl;
  decides = record { ok = λ k d l. absurd (omega arith); err = tt };
  image = λ told. image_none [] (F.held s);
  keeps = λ told. keeps_none s (Image [] (F.held s)) (image_none [] (F.held s));
  done = λ told. record { each = λ c. refl };
  counts = record { cause = tt; clean = λ exact c. refl };
  clouds = refl;
  grows = λ c. omega arith;
  slips = refl;
  gets = refl;
  time = goes_none s;
}

-- where there are none
pub wrote_no_jobs : {A : Type 0} (F : FleetGhosts A) (s : A) (jobs : List Job) → [] ≡ jobs → (ended : List Job) × Wrote F (writes jobs) ended s s (Ok tt)
wrote_no_jobs F s jobs none = ([], subst (λ (js : List Job). Wrote F (writes js) [] s s (Ok tt)) none (wrote_none F s))

pub erased_none : {A : Type 0} (F : FleetGhosts A) (s : A) → Erased F [] s s
erased_none F s = record {
  keeps = λ told. keeps_none s (Image [] (F.held s)) (image_none [] (F.held s));
  gone = λ told sure none. record { each = λ c. refl };
  clouds = refl;
  faults = refl;
  grows = λ c. omega arith;
  gets = refl;
  time = goes_none s;
}

pub erased_no_entries : {A : Type 0} (F : FleetGhosts A) (s : A) (erases : List Erase) → [] ≡ erases → Erased F (erasures erases) s s
erased_no_entries F s erases none = subst (λ (es : List Erase). Erased F (erasures es) s s) none (erased_none F s)
