-- What rounds of one name leave of the others.
use Rattle.std.proofs.Common.{◌≡◌, ◌≢◌, ℕ, Bool, true, false, if◌then◌else◌, Option, List, refl, sym, ◌∙◌, subst}
use Rattle.std.specs.Str.{bytes_eq}
use Rattle.std.proofs.lemmas.Slice.Eq.{bytes_eq-Decides}
use Rattle.nc_name.specs.declared.key.Key.{Key}
use Rattle.nc_name.specs.Keys.{name_of}
use Rattle.nc_name.specs.Names.{IsName}
use Rattle.nc_cloud.specs.Contents.{Contents}
use Rattle.nc_state.specs.Clouds.{Clouds}
use Rattle.nc_state.specs.Entries.{Entry, HasEntry}
use Rattle.nc_state.specs.Standing.{Entries, Stands, with_entry}
use Rattle.nc_state.specs.Rounds.{IsImage, Touching}
use Rattle.nc_state.proofs.Wholes.{image_same}
use Rattle.nc_state.specs.ChunkLaws.{SameAt}
use Rattle.nc_state.proofs.Keeping.{same_entry}

-- the round touches places of this name alone
abbrev pub IsOfName : Touching → List ℕ → Type 0
IsOfName touches name = (c : ℕ) (place : Key) (new : Option (List ℕ)) → touches c place new → name_of place ≡ name

same_elsewhere : {n : ℕ} {touches : Touching} {F G : Contents} {name : List ℕ} → IsImage n touches F G → IsOfName touches name → (other : List ℕ) → other ≢ name → SameAt n F G other
same_elsewhere image of other differs c place l e = image_same image c place l (λ new touch. differs (sym e ∙ of c place new touch))

-- the entry of the name, by whether it is this one
entry_by : (n : ℕ) (G : Contents) (D : Clouds) (name other : List ℕ) (e o : Entry) (same : Bool) → (same ≡ true → other ≡ name) → HasEntry n G D name e → ((other ≢ name) → HasEntry n G D other o)
    → (other ≡ name → same ≡ true) → HasEntry n G D other (if same then e else o)
entry_by n G D name other e o true is here elsewhere back = subst (λ (k : List ℕ). HasEntry n G D k e) (sym (is refl)) here
entry_by n G D name other e o false is here elsewhere back = elsewhere (λ s. let wrong : false ≡ true = back s in cc)

-- after a round of this name, all names have their entries once this one has
pub entries_after : {n : ℕ} {touches : Touching} {F G : Contents} {S : Entries} {D : Clouds} {name : List ℕ} → Stands n F S D → IsImage n touches F G → IsOfName touches name
    → (e : Entry) → HasEntry n G D name e → (other : List ℕ) → IsName other → HasEntry n G D other (with_entry S name e other)
entries_after {n} {touches} {F} {G} {S} {D} {name} stands image of e here other is =
    let test = bytes_eq-Decides other name in
    entry_by n G D name other e (S other) (bytes_eq other name) test.0 here
    (λ differs. same_entry n F G D other (S other) stands.wide stands.narrow is (same_elsewhere image of other differs) (stands.entries other is)) test.1

-- the same where the entry stays
pub entries_stay : {n : ℕ} {touches : Touching} {F G : Contents} {S : Entries} {D : Clouds} {name : List ℕ} → Stands n F S D → IsImage n touches F G → IsOfName touches name
    → HasEntry n G D name (S name) → (other : List ℕ) → IsName other → HasEntry n G D other (S other)
entries_stay {n} {touches} {F} {G} {S} {D} {name} stands image of here other is =
    let test = bytes_eq-Decides other name in
    stay n F G S D name other (bytes_eq other name) test.0 test.1 here
    (λ differs. same_entry n F G D other (S other) stands.wide stands.narrow is (same_elsewhere image of other differs) (stands.entries other is))
  where
    stay : (n : ℕ) (F G : Contents) (S : Entries) (D : Clouds) (name other : List ℕ) (same : Bool) → (same ≡ true → other ≡ name) → (other ≡ name → same ≡ true)
        → HasEntry n G D name (S name) → ((other ≢ name) → HasEntry n G D other (S other)) → HasEntry n G D other (S other)
    stay n F G S D name other true is back here elsewhere = subst (λ (k : List ℕ). HasEntry n G D k (S k)) (sym (is refl)) here
    stay n F G S D name other false is back here elsewhere = elsewhere (λ s. let wrong : false ≡ true = back s in cc)
