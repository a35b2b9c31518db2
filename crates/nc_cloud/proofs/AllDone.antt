-- What follows for a round of deletes.
use Rattle.std.proofs.Common.{◌≡◌, ◌≢◌, ◌<◌, ℕ, List, get_or, All, refl}
use Rattle.nc_cloud.specs.declared.fleet.Erase.{Erase}
use Rattle.nc_cloud.specs.declared.fleet.Done.{Done}
use Rattle.nc_cloud.specs.declared.fleet.Done.TheVariants.{Waiting, Ok, Failed, Memory}
use Rattle.nc_cloud.specs.Contents.{Rose}

done_of : (d : Done) → d ≢ Waiting → d ≢ Failed → d ≢ Memory → d ≡ Ok
done_of Ok begun fine found = refl
done_of Waiting begun fine found = absurd (begun refl)
done_of Failed begun fine found = absurd (fine refl)
done_of Memory begun fine found = absurd (found refl)

-- where no count rose and memory was found, each delete is done
pub all_done : (n : ℕ) (erases : List Erase) (before now : ℕ → ℕ) → All (λ e. e.cloud < n) erases
    → All (λ e. e.done ≢ Waiting) erases → All (λ e. e.done ≢ Memory) erases
    → All (λ e. e.done ≡ Failed → Rose (before e.cloud) (now e.cloud)) erases
    → ((c : ℕ) → c < n → Rose (before c) (now c) → ⊥) → All (λ e. e.done ≡ Ok) erases
all_done n erases before now below answered found failed none k d l =
    let e : Erase = get_or erases k d in
    done_of e.done (answered k d l) (λ is. none e.cloud (below k d l) (failed k d l is)) (found k d l)
