use Rattle.nc_run.proofs.causes.say_cause.Goals as goal

pub returns-in-NoFile : goal.returns-in-NoFile
returns-in-NoFile g c = record { says = rw c.in-NoFile.is c.send.ensures.sends }

pub returns-in-Cloud : goal.returns-in-Cloud
returns-in-Cloud g c = record { says = rw c.in-Cloud.is c.say_one.ensures.says }

pub returns-in-Short : goal.returns-in-Short
returns-in-Short g c = record { says = rw c.in-Short.is c.say_short.ensures.says }

pub returns-in-Spent : goal.returns-in-Spent
returns-in-Spent g c = record { says = rw c.in-Spent.is c.say_one-in-Spent.ensures.says }

pub returns-in-Worn : goal.returns-in-Worn
returns-in-Worn g c = record { says = rw c.in-Worn.is c.send-in-Worn.ensures.sends }

pub returns-in-Damaged : goal.returns-in-Damaged
returns-in-Damaged g c = record { says = rw c.in-Damaged.is c.say_damaged.ensures.says }

pub returns-in-Conflict : goal.returns-in-Conflict
returns-in-Conflict g c = record { says = rw c.in-Conflict.is c.say_conflict.ensures.says }

pub returns-in-Misplaced : goal.returns-in-Misplaced
returns-in-Misplaced g c = record { says = rw c.in-Misplaced.is c.say_misplaced.ensures.says }

pub returns-in-Unsound : goal.returns-in-Unsound
returns-in-Unsound g c = record { says = rw c.in-Unsound.is c.say_unsound.ensures.says }

pub returns-in-Memory : goal.returns-in-Memory
returns-in-Memory g c = record { says = rw c.in-Memory.is c.send-in-Memory.ensures.sends }
