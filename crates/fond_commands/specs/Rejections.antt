-- Rejections of files, actions, certificates and scripts, and the replies to them.
use Rattle.std.specs.Prelude.{Option, Some, None, IfSome}
use Rattle.fond_text.specs.declared.fault.FrontError.{FrontError}
use Rattle.fond_text.specs.declared.fault.FrontError.TheVariants as front
use Rattle.fond_cert.specs.declared.error.CertError.{CertError}
use Rattle.fond_cert.specs.declared.error.CertError.TheVariants as cert
use Rattle.fond_exec.specs.declared.script.ScriptError.{ScriptError}
use Rattle.fond_exec.specs.declared.script.ScriptError.TheVariants as script
use Rattle.fond_commands.specs.declared.rejection.Rejection.{Rejection}
use Rattle.fond_commands.specs.declared.rejection.Rejection.TheVariants.{Fault, UnknownAction, Cert, Script, NoMemory}
use Rattle.fond_commands.specs.Replies.{Reply, fault_reply, action_reply, cert_reply, script_reply}

-- the reply to a rejection, and none if memory ran out
abbrev pub reply_to : Rejection → Option Reply
reply_to (Fault fault) = Some (fault_reply fault)
reply_to UnknownAction = Some action_reply
reply_to (Cert code byte) = Some (cert_reply code byte)
reply_to (Script byte) = Some (script_reply byte)
reply_to NoMemory = None

-- a rejection has a reply of which this holds; memory may run out at any time
abbrev pub Rejects : (Reply → Type 0) → Rejection → Type 0
Rejects holds rejection = IfSome (reply_to rejection) holds

-- the rejection by an error of the files
abbrev pub of_files : FrontError → Rejection
of_files (front.Refused fault) = Fault fault
of_files front.NoMemory = NoMemory

-- the rejection by an error of a certificate
abbrev pub of_cert : CertError → Rejection
of_cert (cert.Refused code byte) = Cert code byte
of_cert cert.NoMemory = NoMemory

-- the rejection by an error of a script
abbrev pub of_script : ScriptError → Rejection
of_script (script.Refused byte) = Script byte
of_script script.NoMemory = NoMemory
