use Rattle.nc_download.proofs.FindLaws.{found_shows, refused_finds, refused_shows, shown_fits}
use Rattle.nc_download.proofs.finding.find.Goals as goal

pub returns-in-Ok-clause-finds : goal.returns-in-Ok-clause-finds
returns-in-Ok-clause-finds g c = record {
  view = c.in_ok-view.view;
  width = c.in_ok-view.ensures.width;
  sees = c.in_ok-view.ensures.told;
  rose = c.in_ok-view.ensures.failed;
  only = c.in_ok-view.ensures.exact;
  shown = c.in-Ok.ensures.shown;
}

pub returns-in-Ok-clause-shows : goal.returns-in-Ok-clause-shows
returns-in-Ok-clause-shows g c told = found_shows g.F.Fleet _ _ _ c.in_ok-view.ensures.valid told c.in-Ok.live (returns-in-Ok-clause-finds g c)

pub returns-in-Ok-clause-valid : goal.returns-in-Ok-clause-valid
returns-in-Ok-clause-valid g c = shown_fits _ _ c.in-Ok.live c.in_ok-view.ensures.width c.in_ok-view.ensures.metas c.in-Ok.ensures.shown

pub returns-clause-finds : goal.returns-clause-finds
returns-clause-finds g c = refused_finds g.F.Fleet _ _ _ c.in-Err.fault (record {
  view = c.in_ok-view.view;
  width = c.in_ok-view.ensures.width;
  sees = c.in_ok-view.ensures.told;
  rose = c.in_ok-view.ensures.failed;
  only = c.in_ok-view.ensures.exact;
  shown = c.in-Err.ensures.fault;
})

pub returns-clause-shows : goal.returns-clause-shows
returns-clause-shows g c told = refused_shows g.F.Fleet _ _ _ c.in_ok-view.ensures.valid told c.in-Err.fault (record {
  view = c.in_ok-view.view;
  width = c.in_ok-view.ensures.width;
  sees = c.in_ok-view.ensures.told;
  rose = c.in_ok-view.ensures.failed;
  only = c.in_ok-view.ensures.exact;
  shown = c.in-Err.ensures.fault;
})
