-- What a look hands back, as the meaning has it. Assumes nothing.
use Rattle.arrival.specs.Arrive.{Forecast, forecast}
use Rattle.uf2_receiver.specs.declared.looking.Preview.{Preview}

-- what a look returns
abbrev pub previewed : Preview → Forecast
previewed r = forecast r.answer r.discarded
