use Rattle.std.proofs.Common.{◌≡◌, ◌≤◌, ◌∙◌, ℕ, Option, List, length, sym, ap, subst}
use Rattle.nc_names.specs.Listing.{named}
use Rattle.nc_state.specs.Clouds.{count_of}
use Rattle.nc_download.specs.Listing.{AreListed, ListRefuses}
use Rattle.nc_download.specs.ListingOnVaults.{AllShow}
use Rattle.nc_words.specs.declared.act.Act.TheVariants as act
use Rattle.nc_words.specs.Acts.{task_of}
use Rattle.nc_vault.specs.declared.reply.Reply.{Reply}
use Rattle.nc_vault.specs.Acting.{Acted}
use Rattle.nc_vault.specs.Listing.{IsLeastOfThree, rows_of}
use Rattle.nc_vault.proofs.ListingLaws.{list_failed, list_memory, listed_failed, listed_read, told_all, told_none, told_stop}
use Rattle.nc_vault.proofs.listing.list.Goals as goal

-- no memory was found for the names
pub returns-in-Err : goal.returns-in-Err
returns-in-Err g c = record {
  acted = λ s bytes. subst (λ (r : Reply). Acted g.F.Fleet (task_of s act.List bytes) c.args.fleet.now c.list_names.new.fleet r) (sym c.stopped.ensures)
      (list_memory g.F.Fleet s bytes c.args.fleet.now c.list_names.new.fleet (listed_read g.F.Fleet c.args.fleet.now c.list_names.new.fleet c.list_names.ensures.listed) 0);
}

-- three lists failed
pub returns-in-Some : goal.returns-in-Some
returns-in-Some g c =
    let width : c.width.result ≡ g.F.Fleet.clouds c.args.fleet.now = c.width.ensures ∙ c.list_names.ensures.listed.clouds in
    record {
      acted = λ s bytes. subst (λ (r : Reply). Acted g.F.Fleet (task_of s act.List bytes) c.args.fleet.now c.list_names.new.fleet r) (sym c.stopped-in-Some.ensures)
          (list_failed g.F.Fleet s bytes c.args.fleet.now c.list_names.new.fleet (listed_read g.F.Fleet c.args.fleet.now c.list_names.new.fleet c.list_names.ensures.listed)
          (named c.list_names.new.failed) c.in-Some.cloud
          (record { only = c.list_names.ensures.listed; failed = c.in-Ok.ensures.failed; exact = c.in-Ok.ensures.exact })
          (listed_failed g.F.Fleet c.args.fleet.now c.list_names.new.fleet (named c.list_names.new.failed) c.list_names.ensures.listed c.in-Ok.ensures.failed c.in-Ok.ensures.exact)
          (subst (λ (n : ℕ). IsLeastOfThree n (named c.list_names.new.failed) c.in-Some.cloud) width c.in-Some.ensures.some));
    }

-- a look wasn't told
pub returns-in-Err-find_all : goal.returns-in-Err-find_all
returns-in-Err-find_all g c =
    let width : c.width.result ≡ g.F.Fleet.clouds c.args.fleet.now = c.width.ensures ∙ c.list_names.ensures.listed.clouds in
    let few : count_of (g.F.Fleet.clouds c.args.fleet.now) (named c.list_names.new.failed) ≤ 2 = subst (λ (n : ℕ). count_of n (named c.list_names.new.failed) ≤ 2) width c.in_default.ensures.none in
    record {
      acted = λ s bytes. subst (λ (r : Reply). Acted g.F.Fleet (task_of s act.List bytes) c.args.fleet.now c.find_all.new.fleet r) (sym c.stopped_at.ensures)
          (told_stop g.F.Fleet s bytes c.args.fleet.now c.list_names.new.fleet c.find_all.new.fleet (named c.list_names.new.failed) (named c.find_all.new.failed) c.list_names.ensures.listed
          c.in-Ok.ensures.failed c.in-Ok.ensures.exact c.find_all.ensures.looked c.find_all.ensures.stops c.find_all.ensures.gets c.find_all.ensures.more
          c.in-Ok.names.items c.in-Err-find_all.stop few c.in-Ok.ensures.sorted c.in-Ok.ensures.names
          (subst (λ (ns : List (List ℕ)). ListRefuses g.F.Fleet ns (named c.list_names.new.failed) (named c.find_all.new.failed) c.list_names.new.fleet c.find_all.new.fleet c.in-Err-find_all.stop) c.deref.ensures.value c.in-Err-find_all.ensures.refused)
          c.in-Err-find_all.ensures.stopped);
    }

-- no memory was found for the rows
pub returns : goal.returns
returns g c = record {
  acted = λ s bytes. subst (λ (r : Reply). Acted g.F.Fleet (task_of s act.List bytes) c.args.fleet.now c.find_all.new.fleet r) (sym c.stopped-in-Err-rows_of.ensures)
      (told_none g.F.Fleet s bytes c.args.fleet.now c.list_names.new.fleet c.find_all.new.fleet (named c.list_names.new.failed) (named c.find_all.new.failed) c.list_names.ensures.listed
      c.in-Ok.ensures.failed c.in-Ok.ensures.exact c.find_all.ensures.looked c.find_all.ensures.stops c.find_all.ensures.gets c.find_all.ensures.more c.len.result);
}

-- all files are told
pub returns-in-Ok-rows_of : goal.returns-in-Ok-rows_of
returns-in-Ok-rows_of g c =
    let width : c.width.result ≡ g.F.Fleet.clouds c.args.fleet.now = c.width.ensures ∙ c.list_names.ensures.listed.clouds in
    let few : count_of (g.F.Fleet.clouds c.args.fleet.now) (named c.list_names.new.failed) ≤ 2 = subst (λ (n : ℕ). count_of n (named c.list_names.new.failed) ≤ 2) width c.in_default.ensures.none in
    let are : c.in-Ok-rows_of.rows ≡ rows_of c.in-Ok.names.items c.in-Ok-find_all.lens.items =
    c.in-Ok-rows_of.ensures ∙ ap (λ (ns : List (List ℕ)). rows_of ns c.deref-3.result.now) c.deref-2.ensures.value ∙ ap (λ (ls : List (Option ℕ)). rows_of c.in-Ok.names.items ls) c.deref-3.ensures.value in
    let long : length c.in-Ok-find_all.lens.items ≡ length c.in-Ok.names.items = c.in-Ok-find_all.ensures.listed.long ∙ ap length c.deref.ensures.value in
    record {
      acted = λ s bytes.
          told_all g.F.Fleet s bytes c.args.fleet.now c.list_names.new.fleet c.find_all.new.fleet (named c.list_names.new.failed) (named c.find_all.new.failed) c.list_names.ensures.listed
          c.in-Ok.ensures.failed c.in-Ok.ensures.exact c.find_all.ensures.looked c.find_all.ensures.stops c.find_all.ensures.gets c.find_all.ensures.more
          c.in-Ok.names.items c.in-Ok-find_all.lens.items c.in-Ok-rows_of.rows are
          (subst (λ (ns : List (List ℕ)). AreListed g.F.Fleet c.list_names.new.fleet ns (length ns) (named c.list_names.new.failed) (named c.find_all.new.failed) c.in-Ok-find_all.lens.items) c.deref.ensures.value c.in-Ok-find_all.ensures.listed)
          c.in-Ok-find_all.ensures.only c.in-Ok-find_all.ensures.few few
          c.in-Ok.ensures.valid c.in-Ok.ensures.sorted c.in-Ok.ensures.names long
          (λ told. subst (λ (ns : List (List ℕ)). AllShow g.F.Fleet c.list_names.new.fleet ns (named c.find_all.new.failed) c.in-Ok-find_all.lens.items) c.deref.ensures.value (c.in-Ok-find_all.ensures.shows told));
    }
