-- What is printed is the text for what was read: the bytes before the text's end are that text.
use Rattle.stops.proofs.main.Goals as goal

pub print-requires-clause-whole : goal.print-requires-clause-whole
print-requires-clause-whole c = rw c.list_text-r.ensures.holds.front c.list_text-r.ensures.prints
