-- Frames that are laid out first, and get their digests afterwards.
use Rattle.std.proofs.Common.{◌≡◌, ◌-◌, ◌+◌, ◌≤◌, ◌++◌, ℕ, List, length, replicate, take, ap, subst, sym, ◌∙◌, arith, length-append, take_at}
use Rattle.std.proofs.lemmas.List.{length-replicate}
use Rattle.sha2.specs.Sha256.{sha256}
use Rattle.nc_frame.specs.Frames.{LaidOut, Sealed, finished, frame, frame_front, laid_frame}

module _ (c w : ℕ) (key payload : List ℕ) where
  -- so many bytes stand before the place of the digest
  laid_at : length (laid_frame c w key payload) ≡ length (frame_front c w key payload) + 32
  unfolding laid_frame
  laid_at =
      let zeros : List ℕ = replicate 32 0 in
      length-append (frame_front c w key payload) zeros ∙ ap (λ k. length (frame_front c w key payload) + k) (length-replicate {A = ℕ} 32 0)

  -- there is room for the digest
  pub laid_long : 32 ≤ length (laid_frame c w key payload)
  laid_long = omega (arith, laid_at)

  -- what was laid out is a frame once it has its digest
  pub finished_is : finished (laid_frame c w key payload) ≡ frame c w key payload
  unfolding finished laid_frame frame
  finished_is =
      let at : length (frame_front c w key payload) ≡ length (laid_frame c w key payload) - 32 = omega (arith, laid_at) in
      let front : take (length (laid_frame c w key payload) - 32) (laid_frame c w key payload) ≡ frame_front c w key payload =
      take_at (frame_front c w key payload) (replicate 32 0) (length (laid_frame c w key payload) - 32) at in
      ap (λ f. f ++ sha256 f) front

  pub laid_is_long : (bytes : List ℕ) → LaidOut bytes c w key payload → 32 ≤ length bytes
  laid_is_long bytes laid = subst (λ l. 32 ≤ length l) (sym laid.is_laid) laid_long

  pub laid_is_sealed : (bytes : List ℕ) → LaidOut bytes c w key payload → Sealed (finished bytes) c w key payload
  laid_is_sealed bytes laid = record { fits = laid.fits; is_frame = ap finished laid.is_laid ∙ finished_is }
