-- What bytes are to a cloud that reads them under a key.
use Rattle.std.specs.Prelude.{ℕ, ◌≡◌, ◌≢◌, ◌⊎◌, List}
use Rattle.nc_frame.specs.declared.opening.Seen.{Seen}
use Rattle.nc_frame.specs.declared.opening.Seen.TheVariants.{Payload, Misplaced, Broken}
use Rattle.nc_frame.specs.Frames.{Sealed}

-- the payload; or the cloud and width of a frame that is not of here; or broken, as all else
abbrev pub Opens : List ℕ → ℕ → ℕ → List ℕ → Seen → Type 0
Opens bytes cloud width key (Payload payload) = Sealed bytes cloud width key payload.now
Opens bytes cloud width key (Misplaced said_cloud said_width) =
    ((said_cloud ≢ cloud) ⊎ (said_width ≢ width)) × ((k payload : List ℕ) × Sealed bytes said_cloud said_width k payload)
Opens bytes cloud width key Broken =
    (c w : ℕ) (k payload : List ℕ) → Sealed bytes c w k payload → (c ≡ cloud) × (w ≡ width) × (k ≢ key)
