use Rattle.ms_app.proofs.Requests as requests
use Rattle.ms_app.proofs.complete_examples.worked_runs.Goals as goal

pub returns : goal.returns
returns c = record { well = requests.well; sink_failed = requests.sink_failed; nothing_told = requests.nothing_told }
