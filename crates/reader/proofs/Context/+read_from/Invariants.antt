use Rattle.reader.proofs.Context.+read_from.Given as goal

-- the room for conditions falls at each call
abbrev pub decreases-read_from : goal.decreases-read_from
decreases-read_from l = l.room
