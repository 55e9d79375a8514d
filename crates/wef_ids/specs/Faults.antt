-- The names of faults, as they stand in a fault.
use Rattle.std.specs.Prelude.{ℕ, List, codes}
use Rattle.wef_ids.specs.declared.FaultName.{FaultName}
use Rattle.wef_ids.specs.declared.FaultName.TheVariants.{DeliveryModeRequestedUnavailable, FilteringRequestedUnavailable, InvalidExpirationTime, InvalidMessage, UnableToRenew, ActionNotSupported, DestinationUnreachable, MessageInformationHeaderRequired, InvalidBookmark, EncodingLimit, InternalError, InvalidEnumerationContext, MustUnderstand, Other}

-- a fault's name: the name itself, or the text that another one has
unfoldable pub fault_text : FaultName → List ℕ
fault_text DeliveryModeRequestedUnavailable = codes "DeliveryModeRequestedUnavailable"
fault_text FilteringRequestedUnavailable = codes "FilteringRequestedUnavailable"
fault_text InvalidExpirationTime = codes "InvalidExpirationTime"
fault_text InvalidMessage = codes "InvalidMessage"
fault_text UnableToRenew = codes "UnableToRenew"
fault_text ActionNotSupported = codes "ActionNotSupported"
fault_text DestinationUnreachable = codes "DestinationUnreachable"
fault_text MessageInformationHeaderRequired = codes "MessageInformationHeaderRequired"
fault_text InvalidBookmark = codes "InvalidBookmark"
fault_text EncodingLimit = codes "EncodingLimit"
fault_text InternalError = codes "InternalError"
fault_text InvalidEnumerationContext = codes "InvalidEnumerationContext"
fault_text MustUnderstand = codes "MustUnderstand"
fault_text (Other text) = text
