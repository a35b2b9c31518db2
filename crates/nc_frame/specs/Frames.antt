-- Sealed objects: what stands on a cloud.
use Rattle.std.specs.Prelude.{ℕ, ◌≡◌, ◌≢◌, ◌-◌, ◌<◌, ◌^◌, List, [], ◌∷◌, ◌++◌, length, replicate, take}
use Rattle.sha2.specs.Sha256.{sha256}
use Rattle.nc_bytes.specs.Bytes.{AreBytes, bytes_2, bytes_8}

-- "NCF1", the cloud, the width, the key and the payload, both after their lengths
unfoldable pub frame_front : ℕ → ℕ → List ℕ → List ℕ → List ℕ
frame_front cloud width key payload =
    (0x4E ∷ 0x43 ∷ 0x46 ∷ 0x31 ∷ cloud ∷ width ∷ []) ++ (bytes_2 (length key) ++ (key ++ (bytes_8 (length payload) ++ payload)))

-- the same, and the SHA-256 (FIPS 180-4) of all of it
unfoldable pub frame : ℕ → ℕ → List ℕ → List ℕ → List ℕ
frame cloud width key payload = frame_front cloud width key payload ++ sha256 (frame_front cloud width key payload)

-- what has a frame
pub record HasFrame (cloud width : ℕ) (key payload : List ℕ) : Type 0 where
  pub cloud_fits : cloud < 256
  pub width_fits : width < 256
  pub key_fits : length key < 2 ^ 16
  pub payload_fits : length payload < 2 ^ 64
  pub key_bytes : AreBytes key
  pub payload_bytes : AreBytes payload

-- the bytes are the frame of these parts
pub record Sealed (bytes : List ℕ) (cloud width : ℕ) (key payload : List ℕ) : Type 0 where
  pub fits : HasFrame cloud width key payload
  pub is_frame : bytes ≡ frame cloud width key payload

-- the frame of these parts but for its digest, in whose place zeros stand
unfoldable pub laid_frame : ℕ → ℕ → List ℕ → List ℕ → List ℕ
laid_frame cloud width key payload = frame_front cloud width key payload ++ replicate 32 0

-- the bytes are that
pub record LaidOut (bytes : List ℕ) (cloud width : ℕ) (key payload : List ℕ) : Type 0 where
  pub fits : HasFrame cloud width key payload
  pub is_laid : bytes ≡ laid_frame cloud width key payload

-- the same bytes, but for the SHA-256 of all before the last 32 in place of those
unfoldable pub finished : List ℕ → List ℕ
finished bytes = take (length bytes - 32) bytes ++ sha256 (take (length bytes - 32) bytes)

-- the bytes are a frame; else they are broken
pub record Whole (bytes : List ℕ) : Type 0 where
  pub cloud : ℕ
  pub width : ℕ
  pub key : List ℕ
  pub payload : List ℕ
  pub is_sealed : Sealed bytes cloud width key payload

-- no beginning is whole, the bytes themselves included
pub record AreTorn (bytes : List ℕ) : Type 0 where
  pub none_whole : (front rest : List ℕ) → front ++ rest ≡ bytes → Whole front → ⊥

-- a beginning of a whole frame that is not all of it is torn
abbrev pub ProperPrefixesAreTorn : Type 0
ProperPrefixesAreTorn = (front rest bytes : List ℕ) → Whole bytes → front ++ rest ≡ bytes → rest ≢ [] → AreTorn front

-- a beginning of torn bytes is torn
abbrev pub PrefixesOfTornAreTorn : Type 0
PrefixesOfTornAreTorn = (front rest bytes : List ℕ) → AreTorn bytes → front ++ rest ≡ bytes → AreTorn front
