use Rattle.std.proofs.Common.{◌≡◌, ◌-◌, ◌++◌, ◌∙◌, ap, ap₂, ℕ, List, length, take}
use Rattle.sha2.specs.Sha256.{sha256}
use Rattle.sha2.proofs.Facts256.{length-sha256}
use Rattle.nc_bytes.specs.Bytes.{part}
use Rattle.nc_frame.specs.Frames.{finished}
use Rattle.nc_frame.proofs.sealing.finish.Goals as goal

pub returns : goal.returns
unfolding finished
returns c =
    let frame : List ℕ = c.args.frame in
    let front : c.part_of.result.now ≡ take (length frame - 32) frame = c.part_of.ensures ∙ ap₂ (λ (xs ys : List ℕ). part 0 (length xs - 32) ys) c.bytes.ensures c.bytes-2.ensures in
    let digest : c.digest-digest.result ≡ sha256 (take (length frame - 32) frame) = c.digest-digest.ensures ∙ ap sha256 front in
    let size : length c.digest-digest.result ≡ 32 = ap length digest ∙ length-sha256 (take (length frame - 32) frame) in
    c.with_end.ensures ∙ ap₂ (λ (n : ℕ) (d : List ℕ). take (length frame - n) frame ++ d) size digest
