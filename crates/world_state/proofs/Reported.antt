-- The reports of a log with one more entry.
use Rattle.world_state.proofs.Common.{List, Option, None, refl, Fate, Command, ReportState, IsReportState}

-- an entry without a report
pub quiet : {commands : List Command} {fate : Option Fate} {kept : ReportState} → IsReportState commands fate kept → IsReportState commands None (record kept { newest = None })
quiet kept = record { gives = kept.gives; exit_asked = kept.exit_asked; newest = refl }
