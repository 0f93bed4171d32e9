mod OneFault
