use Rattle.nc_run.proofs.causes.say_status.Goals as goal

pub returns-in-Width : goal.returns-in-Width
returns-in-Width g c = record { says = rw c.in-Width.is c.say_one.ensures.says }

pub returns-in-BatchLine : goal.returns-in-BatchLine
returns-in-BatchLine g c = record { says = rw c.in-BatchLine.is c.say_one-in-BatchLine.ensures.says }

pub returns-in-Usage : goal.returns-in-Usage
returns-in-Usage g c = record { says = rw c.in-Usage.is c.say_usage.ensures.says }

pub returns-in-TooLong : goal.returns-in-TooLong
returns-in-TooLong g c = record { says = rw c.in-TooLong.is c.send.ensures.sends }

pub returns-in-ReadFault : goal.returns-in-ReadFault
returns-in-ReadFault g c = record { says = rw c.in-ReadFault.is c.send-in-ReadFault.ensures.sends }

pub returns-in-WriteFault : goal.returns-in-WriteFault
returns-in-WriteFault g c = record { says = rw c.in-WriteFault.is c.send-in-WriteFault.ensures.sends }
