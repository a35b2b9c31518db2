-- A round that asks all clouds for their chunks of a row.
use Rattle.std.proofs.Common.{◌≡◌, ◌+◌, ◌++◌, ◌∷◌, ℕ, List, [], All, length, map, refl, sym, ap, ◌∙◌, subst}
use Rattle.nc_name.specs.declared.key.Key.{Key}
use Rattle.nc_name.specs.declared.key.Key.TheVariants as key
use Rattle.nc_cloud.specs.declared.fleet.Answer.TheVariants as answer
use Rattle.nc_cloud.specs.declared.fleet.Ask.{Ask}
use Rattle.nc_cloud.specs.Contents.{Contents}
use Rattle.nc_cloud.specs.Deciding.{AreAscending}
use Rattle.nc_cloud.specs.Fleet.{asked, Answers}
use Rattle.nc_cloud.specs.Rounds.{row}
use Rattle.nc_cloud.proofs.Decisions.{ascend_row}
use Rattle.nc_cloud.proofs.Rounds.{answer_at, row_length, row_more}
use Rattle.nc_meta.specs.declared.meta.Live.{Live}
use Rattle.nc_download.specs.declared.judging.Wanted.{Wanted}
use Rattle.nc_download.specs.Chunks.{ask_of, chunk_ask, wanted_of}
use Rattle.nc_scrub.specs.Tables.{AreChunkStates, RowTold, Table}

-- an ask more
pub asks_more : (n : ℕ) (name : List ℕ) (m : Live) (r k : ℕ) (old new : List (ℕ × Key × ℕ)) (w : Wanted) → old ≡ row (chunk_ask n name m r) 0 k → w ≡ wanted_of n name m r k → new ≡ old ++ ask_of w ∷ []
    → new ≡ row (chunk_ask n name m r) 0 (k + 1)
asks_more n name m r k old new w are w_is is =
    is ∙ ap (λ (x : Wanted). old ++ ask_of x ∷ []) w_is ∙ ap (λ (xs : List (ℕ × Key × ℕ)). xs ++ chunk_ask n name m r k ∷ []) are ∙ sym (row_more (chunk_ask n name m r) k)

no_ask : Ask
no_ask = record { cloud = 0; key = key.Chunk [] 0 0; most = 0; answer = answer.Waiting }

module _ (n : ℕ) (name : List ℕ) (m : Live) (r : ℕ) (asks : List Ask) (all : map asked asks ≡ row (chunk_ask n name m r) 0 n) where
  pub asks_ascend : AreAscending (λ a. a.cloud) n asks
  asks_ascend = ascend_row asked (λ (x : ℕ × Key × ℕ). x.0) (chunk_ask n name m r) (λ c. refl) n asks all

  pub asks_count : (width : ℕ) → width ≡ n → length asks ≡ width
  asks_count width is = row_length asked (chunk_ask n name m r) n asks all ∙ sym is

  pub row_told : (F : Contents) → All (λ a. Answers a (F a.cloud a.key)) asks → (width : ℕ) → width ≡ n → (table : Table) → AreChunkStates width name m r asks width table → RowTold n name m r F table
  row_told F told width is table are =
      let here : AreChunkStates n name m r asks n table = subst (λ (w : ℕ). AreChunkStates w name m r asks w table) is are in
      record { each = λ c l. ((here.each c l).judges no_ask).verdict (F c (chunk_ask n name m r c).1) (answer_at (chunk_ask n name m r) (λ k. refl) n asks all F told c l no_ask) }
