-- All writes of a put.
use Rattle.std.proofs.Common.{◌≡◌, ◌≤◌, ℕ, Option, List, length, refl, sym, ap, ◌∙◌, subst, arith}
use Rattle.nc_bytes.specs.Bytes.{AreBytes}
use Rattle.nc_code.specs.Good.{IsGood}
use Rattle.nc_meta.specs.declared.meta.Live.{Live}
use Rattle.nc_meta.specs.declared.meta.Meta.{Meta}
use Rattle.nc_meta.specs.Metas.{IsLive}
use Rattle.nc_mix.specs.Mixing.{AreChunksOf}
use Rattle.nc_nextloss.specs.GoodCodes.{GoodParts}
use Rattle.nc_cloud.specs.Deciding.{AreAscending}
use Rattle.nc_cloud.specs.Rounds.{row}
use Rattle.nc_state.specs.Versions.{IsValid}
use Rattle.nc_state.specs.Versions.Version.{Stored}
use Rattle.nc_write.specs.declared.sealing.Placed.{Placed}
use Rattle.nc_write.specs.declared.sealing.VersionWrites.{VersionWrites}
use Rattle.nc_write.specs.Laying.{AreVersionLaid, IsPutLaid}
use Rattle.nc_write.specs.Marks.{AreMarks}
use Rattle.nc_write.specs.Putting.{IsPutOf, next_meta, placed_of, put_meta}
use Rattle.nc_write.specs.Writes.{AreOfFile, AreVersionWrites, clouds_of}
use Rattle.nc_write.proofs.LayingLaws.{version_finished}
use Rattle.nc_write.proofs.PuttingLaws.{marks_are, put_is, valid_by}
use Rattle.nc_write.proofs.RowLaws.{ascend_each, clouds_are, row_of_file}

-- one of a row for each cloud
pub row_ascends : (chunks : List (List ℕ)) (r n : ℕ) (placed : List Placed) → placed ≡ row (placed_of chunks r) 0 n → AreAscending (λ c. c) n (clouds_of placed)
row_ascends chunks r n placed is = subst (AreAscending (λ c. c) n) (sym (ap clouds_of is ∙ clouds_are chunks r n)) (ascend_each n)

pub rows_same : (chunks : List (List ℕ)) (n : ℕ) (zeros ones : List Placed) → zeros ≡ row (placed_of chunks 0) 0 n → ones ≡ row (placed_of chunks 1) 0 n → clouds_of ones ≡ clouds_of zeros
rows_same chunks n zeros ones zeros_are ones_are = ap clouds_of ones_are ∙ clouds_are chunks 1 n ∙ sym (ap clouds_of zeros_are ∙ clouds_are chunks 0 n)

module _ (name : List ℕ) (top : Option Meta) (good : GoodParts) (v : List ℕ) (narrow : good.code.width ≤ 10) (bytes : AreBytes v) (is : IsGood good.code good.witnesses)
    (chunks marks : List (List ℕ)) (are : AreChunksOf good.code v chunks) (of : AreMarks chunks marks) where
  abbrev n : ℕ
  n = good.code.width

  pub prepared : (live : Live) (zeros ones : List Placed) (w : VersionWrites) → live ≡ next_meta n top good (length v) marks → IsLive n live
      → zeros ≡ row (placed_of chunks 0) 0 n → ones ≡ row (placed_of chunks 1) 0 n → w.live ≡ live → AreVersionWrites n name zeros ones w → IsPutOf n name top good v w
  prepared live zeros ones w live_is fits zeros_are ones_are same made =
      let put : live ≡ put_meta n top good v = live_is ∙ put_is n top good v marks (marks_are good v chunks marks are of) in
      let code : w.live.code ≡ good.code = ap (λ (m : Live). m.code) (same ∙ live_is) in
      let stored : IsLive n (put_meta n top good v) = subst (IsLive n) put fits in
      record {
        is = same ∙ put;
        valid = subst (λ (m : Live). IsValid n (Stored m v)) (sym (same ∙ put)) (valid_by n top good v narrow refl bytes is stored);
        made = record {
          zeros = zeros;
          ones = ones;
          made = made;
          at = ap clouds_of zeros_are ∙ clouds_are chunks 0 n;
          of_0 = subst (AreOfFile n w.live v 0) (sym zeros_are) (row_of_file n w.live good.code v chunks 0 code refl (omega arith) are);
          of_1 = subst (AreOfFile n w.live v 1) (sym ones_are) (row_of_file n w.live good.code v chunks 1 code refl (omega arith) are);
        };
      }

  -- the same of a version that was laid out
  pub prepared_laid : (live : Live) (zeros ones : List Placed) (w : VersionWrites) → live ≡ next_meta n top good (length v) marks → IsLive n live
      → zeros ≡ row (placed_of chunks 0) 0 n → ones ≡ row (placed_of chunks 1) 0 n → w.live ≡ live → AreVersionLaid n name zeros ones w → IsPutLaid n name top good v w
  prepared_laid live zeros ones w live_is fits zeros_are ones_are same laid = record {
    is = record { name = name; zeros = zeros; ones = ones; laid = laid };
    once_finished = λ done finishes. prepared live zeros ones done live_is fits zeros_are ones_are (finishes.live ∙ same) (version_finished n name zeros ones w done laid finishes);
  }
