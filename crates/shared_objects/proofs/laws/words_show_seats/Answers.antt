use Rattle.shared_objects.proofs.Legal.{word_shows}
use Rattle.shared_objects.proofs.laws.words_show_seats.Goals as goal

pub returns : goal.returns
returns c = word_shows
